use Rattle.std.proofs.Common.{rules, ◌≡◌, ◌≤◌, ◌+◌, ◌-◌, length, take, drop, ap, sym, ◌∙◌}
use Rattle.std.proofs.lemmas.List.{drop_all}
use Rattle.sb_port.proofs.Told.{copied_prefix, from_there}
use Rattle.sb_port.proofs.memory_source.MemorySourceSource.take.Goals as goal

pub returns-clause-bytes : goal.returns-clause-bytes
returns-clause-bytes c =
    let at = c.self.inside.at in
    let bytes = c.self.inside.bytes.items in
    let count = c.min-count.result in
    let copied = c.copy_from_slice.new.self in
    let len : length copied ≡ count = search rules in
    let part : copied ≡ take count (take (length bytes - at) (drop at bytes)) = search rules in
    let same = part ∙ ap (take count) (from_there at bytes) in (
      sym (ap (λ v. v.left) c.self.view_is) ∙ copied_prefix bytes copied (drop count c.args.into.now) at count len same,
      λ none some.
          let past : length bytes ≤ at + count = search rules in
          drop_all _ _ past,
    )
