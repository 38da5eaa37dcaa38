-- What a memory that has all its frames notes of its calls.
use Rattle.sb_memory.specs.Physical.{Physical}
use Rattle.sb_memory.specs.Accounts.{PhysCall}

-- nothing
abbrev pub no_account : PhysCall → Physical → Unit {0} → Unit {0}
no_account call memory account = account
