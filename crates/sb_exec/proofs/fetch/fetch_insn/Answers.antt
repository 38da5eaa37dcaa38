use Rattle.std.proofs.Common.{◌≡◌, ◌<◌, ℕ, suc, Ok, Err, length, take, rules, refl, ap, inr, sym}
use Rattle.std.proofs.lemmas.Result.{err_from_is_err_and}
use Rattle.sb_insn.specs.Grammar.{Spells, IsShort}
use Rattle.sb_exec.specs.Fetching.{bytes_from_fetch, fetch_of}
use Rattle.sb_exec.proofs.Fetched.{no_prefixes, more_prefixes, more_stands, spelled_whole}
use Rattle.sb_exec.proofs.fetch.fetch_insn.Goals as goal

pub loop-insn-init : goal.loop-insn-init
loop-insn-init g c =
    record { stands = search rules; prefixes = no_prefixes; within = search rules; same = refl; kept = refl; account = refl }

pub returns-in-Ok-clause-fetched : goal.returns-in-Ok-clause-fetched
returns-in-Ok-clause-fetched g c =
    let long : length (take c.loop-insn.len c.loop-insn.bytes) ≡ c.loop-insn.len = search rules in
    let spelled : Spells (take c.loop-insn.len c.loop-insn.bytes) c.in-Ok.insn =
    spelled_whole (take c.loop-insn.len c.loop-insn.bytes) c.in-Ok.insn c.in-Ok.ensures.answer.0 c.loop-insn.invariant.prefixes in
    record {
      asked = c.loop-insn.len;
      fetched = record {
        bytes = take c.loop-insn.len c.loop-insn.bytes;
        stands = c.loop-insn.invariant.stands;
        prefixes = c.loop-insn.invariant.prefixes;
        ends = (spelled, sym long);
      };
      account = c.loop-insn.invariant.account;
    }

pub returns-in_err-bytes-in-Err-Short-clause-fetched :
    goal.returns-in_err-bytes-in-Err-Short-clause-fetched
returns-in_err-bytes-in-Err-Short-clause-fetched g c =
    let short : IsShort (take c.loop-insn.len c.loop-insn.bytes) =
    rw c.in-Err-Short.field-0-is at c.in-Err-Short.ensures.answer in
    let long : length (take c.loop-insn.len c.loop-insn.bytes) ≡ c.loop-insn.len = search rules in
    let next : fetch_of g.B.Bus.interface (g.B.Bus.meaning c.args.bus.now) (bytes_from_fetch c.args.rip c.loop-insn.len)
    ≡ Err c.in_err-bytes-in-Err-Short.field-0.0 = search rules in
    let at_end : fetch_of g.B.Bus.interface (g.B.Bus.meaning c.args.bus.now)
    (bytes_from_fetch c.args.rip (length (take c.loop-insn.len c.loop-insn.bytes)))
    ≡ Err c.in_err-bytes-in-Err-Short.field-0.0 =
    rw long next in
    let answer = err_from_is_err_and c.from_residual.result c.from_residual.ensures.1 in
    rw (answer.1, answer.2) record {
      asked = suc c.loop-insn.len;
      fetched = record {
        bytes = take c.loop-insn.len c.loop-insn.bytes;
        stands = c.loop-insn.invariant.stands;
        prefixes = c.loop-insn.invariant.prefixes;
        ends = inr (short, at_end, ap (λ (n : ℕ). suc n) (sym long));
      };
      account = search rules;
    }

pub loop-insn-preserved : goal.loop-insn-preserved
loop-insn-preserved g c =
    let inside : c.loop-insn.len < length c.loop-insn.bytes = search rules in
    let short : IsShort (take c.loop-insn.len c.loop-insn.bytes) =
    rw c.in-Err-Short.field-0-is at c.in-Err-Short.ensures.answer in
    let next : fetch_of g.B.Bus.interface (g.B.Bus.meaning c.args.bus.now) (bytes_from_fetch c.args.rip c.loop-insn.len)
    ≡ Ok c.in_ok-bytes-in-Err-Short.field-0 = search rules in
    record {
      stands =
          more_stands (fetch_of g.B.Bus.interface (g.B.Bus.meaning c.args.bus.now)) c.args.rip c.loop-insn.len
          c.in_ok-bytes-in-Err-Short.field-0
          c.loop-insn.bytes inside c.loop-insn.invariant.stands next;
      prefixes =
          more_prefixes c.loop-insn.len c.in_ok-bytes-in-Err-Short.field-0 c.loop-insn.bytes inside c.loop-insn.invariant.prefixes
          short;
      within = search rules;
      same = search rules;
      kept = search rules;
      account = search rules;
    }
