-- Each process of the bundle has a rewritten text.
use Rattle.std.proofs.Common.{◌≡◌, ◌<◌, ◌∙◌, ap, length, arith}
use Rattle.sb_load.specs.Loading.{Load, text_of, rewritten_of}
use Rattle.sb_load.proofs.Known.{text_count, is_of, known}
use Rattle.sb_load.proofs.loaded.Loaded.rewritten.Goals as goal

pub bounds-items-process : goal.bounds-items-process
bounds-items-process c =
    let load : Load = record { bundle = c.self.inside.bundle; rewritten = c.self.inside.rewritten } in
    let within : c.args.process < length load.bundle.images = rw (← c.self.view_is) at c.requires in
    rw c.items.ensures (omega (arith, text_count load c.self.invariant.0))

pub returns-clause-same : goal.returns-clause-same
returns-clause-same c =
    let load : Load = record { bundle = c.self.inside.bundle; rewritten = c.self.inside.rewritten } in
    let within : c.args.process < length load.bundle.images = rw (← c.self.view_is) at c.requires in
    is_of load c.args.process c.index-items-process.result within c.self.invariant.0
    (rw c.items.ensures at c.index-items-process.is)
    ∙ ap (λ (one : Load). rewritten_of one.rewritten c.args.process) c.self.view_is

pub returns-clause-text : goal.returns-clause-text
returns-clause-text c =
    let load : Load = record { bundle = c.self.inside.bundle; rewritten = c.self.inside.rewritten } in
    let within : c.args.process < length load.bundle.images = rw (← c.self.view_is) at c.requires in
    let found = known load c.args.process c.index-items-process.result within c.self.invariant.0
    (rw c.items.ensures at c.index-items-process.is) in
    omega (arith, found.size, found.most)

pub returns-clause-as_long : goal.returns-clause-as_long
returns-clause-as_long c =
    let load : Load = record { bundle = c.self.inside.bundle; rewritten = c.self.inside.rewritten } in
    let within : c.args.process < length load.bundle.images = rw (← c.self.view_is) at c.requires in
    let found = known load c.args.process c.index-items-process.result within c.self.invariant.0
    (rw c.items.ensures at c.index-items-process.is) in
    rw (← c.self.view_is)
    (let same : length c.index-items-process.result.text ≡ length (text_of load.bundle.images c.args.process) =
    omega (arith, found.most, found.least) in same)

pub returns-clause-area : goal.returns-clause-area
returns-clause-area c =
    let load : Load = record { bundle = c.self.inside.bundle; rewritten = c.self.inside.rewritten } in
    let within : c.args.process < length load.bundle.images = rw (← c.self.view_is) at c.requires in
    (known load c.args.process c.index-items-process.result within c.self.invariant.0
    (rw c.items.ensures at c.index-items-process.is)).area

pub returns-clause-starts : goal.returns-clause-starts
returns-clause-starts c =
    let load : Load = record { bundle = c.self.inside.bundle; rewritten = c.self.inside.rewritten } in
    let within : c.args.process < length load.bundle.images = rw (← c.self.view_is) at c.requires in
    (known load c.args.process c.index-items-process.result within c.self.invariant.0
    (rw c.items.ensures at c.index-items-process.is)).starts
