-- The entries that a walk reads, and the account of reading them.
use Rattle.std.specs.Prelude.{ℕ, List, [], ◌∷◌, Result, Ok, Err}

-- what is read after an answer, if there is one
abbrev pub where_ok : {Answer Stop Read : Type 0} → Result Answer Stop → (Answer → List Read) → List Read
where_ok (Ok answer) reads = reads answer
where_ok (Err stop) reads = []

-- the account after the entries at these places are read, in order, by the rule of the tables
abbrev pub after_entries : {Account : Type 0} → (ℕ → Account → Account) → List ℕ → Account → Account
after_entries rule [] account = account
after_entries rule (place ∷ places) account = after_entries rule places (rule place account)
