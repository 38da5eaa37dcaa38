-- What a system call found that is not refused.
use Rattle.std.proofs.Common.{◌≡◌, ◌≢◌, ℕ, ◌*◌, ◌<◌, ◌≤◌, Bool, true, false, List, [], ◌∷◌, ◌==◌, ◌&&◌, ◌||◌, length, drop, refl, arith, inl, inr}
use Rattle.std.specs.Prelude.{Option, Some, None, if◌then◌else◌, not, nat_lt, nat_le, slice_index}
use Rattle.std.proofs.lemmas.Bool.{cases_lt, and_parts, or_parts, eqb-false, not-true}
use Rattle.std.proofs.lemmas.Bool.Decides.{Decides-eqb, Decides-ltb, leb_tells}
use Rattle.sb_abi.specs.declared.call.CallRefusal.{CallRefusal}
use Rattle.sb_abi.specs.declared.frames.TheConstants.{BIND_FRAMES}
use Rattle.sb_abi.specs.declared.space.TheConstants.{MAX_BINDINGS, MAX_STACKS, STACK_PAGES}
use Rattle.sb_calls.specs.Refusals.{register_refusal, bind_refusal, protect_refusal}
use Rattle.sb_state.specs.declared.state.Registration.{Registration}
use Rattle.sb_state.specs.declared.state.Thread.{Thread}
use Rattle.sb_state.specs.State.{State, Process, is_listed, process_at, registration_of, registration_at}
use Rattle.sb_trace.specs.SyscallRegister.{is_start, is_registered, refusal_of_register}
use Rattle.sb_trace.specs.SyscallBind.{refusal_of_bind, first_key}
use Rattle.sb_state.proofs.Cases.{clash}

-- ---- tests

-- where nothing is refused the test failed, and the rest refuses nothing
none_if : (Result : Type 0) (test : Bool) (refusal : CallRefusal) (other : Option CallRefusal)
    → (test ≡ false → other ≡ None → Result) → (if test then Some refusal else other) ≡ None → Result
none_if Result true refusal other more is = absurd cc
none_if Result false refusal other more is = more refl is

not_false : (test : Bool) → not test ≡ false → test ≡ true
not_false true is = refl
not_false false is = absurd cc

not_less : (first second : ℕ) → nat_lt first second ≡ false → second ≤ first
not_less first second is = elim (cases_lt first second) [
  | inl less ↦ absurd (clash (nat_lt first second) ((Decides-ltb first second).1 less) is)
  | inr other ↦ other
]

not_most : (first second : ℕ) → nat_le first second ≡ false → second < first
not_most first second is = elim (leb_tells first second) [
  | inl most ↦ absurd (clash (nat_le first second) most.0 is)
  | inr less ↦ less.1
]

-- where it is no other view, it is the home view
at_home : (view : ℕ) → not (view == 0) ≡ false → view ≡ 0
at_home view home = (Decides-eqb view 0).0 (not_false (view == 0) home)

-- ---- register

-- the home view, a process that is no server, a handler that is a start, one to sixteen stacks, and frames for them
pub record IsRegisterAccepted (view : ℕ) (registered starts : Bool) (stacks free : ℕ) : Type 0 where
  pub home : view ≡ 0
  pub fresh : registered ≡ false
  pub start : starts ≡ true
  pub some : 1 ≤ stacks
  pub few : stacks ≤ 16
  pub room : STACK_PAGES * stacks ≤ free

register_accepted : (view : ℕ) (registered start : Bool) (stacks free : ℕ)
    → register_refusal view registered start stacks free ≡ None → IsRegisterAccepted view registered start stacks free
unfolding register_refusal
register_accepted view registered start stacks free =
    let Goal : Type 0 = IsRegisterAccepted view registered start stacks free in
    none_if Goal (not (view == 0)) _ _
    (λ home. none_if Goal registered _ _
    (λ fresh. none_if Goal (not start) _ _
    (λ starts. none_if Goal ((stacks == 0) || nat_lt MAX_STACKS stacks) _ _
    (λ count. none_if Goal (nat_lt free (STACK_PAGES * stacks)) _ _
    (λ room done.
    let counted = or_parts (stacks == 0) (nat_lt MAX_STACKS stacks) count in
    let some : stacks ≢ 0 = eqb-false stacks 0 counted.0 in
    record {
      home = at_home view home;
      fresh = fresh;
      start = not_false start starts;
      some = omega (arith, some);
      few = not_less MAX_STACKS stacks counted.1;
      room = not_less free (STACK_PAGES * stacks) room;
    })))))

-- what a registration found: the home view, the process, which told nothing, and of which the handler is a start
pub record IsRegistering (state : State) (view process handler stacks : ℕ) : Type 0 where
  pub home : view ≡ 0
  pub found : Process
  pub there : process_at state process ≡ Some found
  pub none : found.registration ≡ None
  pub listed : is_listed found.map.starts handler ≡ true
  pub some : 1 ≤ stacks
  pub few : stacks ≤ 16
  pub room : STACK_PAGES * stacks ≤ state.free

-- a process that told nothing has no registration
pub no_registration : (registration : Option Registration) → is_registered registration ≡ false → registration ≡ None
no_registration None is = refl
no_registration (Some registration) is = absurd cc

registering_by : (state : State) (view process handler stacks : ℕ) (one : Option Process) → process_at state process ≡ one
    → IsRegisterAccepted view (is_registered (registration_of one)) (is_start one handler) stacks state.free
    → IsRegistering state view process handler stacks
registering_by state view process handler stacks None is accepted =
    absurd (let start : false ≡ true = accepted.start in cc)
registering_by state view process handler stacks (Some found) is accepted = record {
  home = accepted.home;
  found = found;
  there = is;
  none = no_registration found.registration accepted.fresh;
  listed = accepted.start;
  some = accepted.some;
  few = accepted.few;
  room = accepted.room;
}

-- a registration that is not refused
pub registering : (state : State) (view process handler stacks : ℕ)
    → refusal_of_register state view process handler stacks ≡ None → IsRegistering state view process handler stacks
unfolding registration_at
registering state view process handler stacks accepted =
    registering_by state view process handler stacks (process_at state process) refl
    (register_accepted view (is_registered (registration_at state process)) (is_start (process_at state process) handler) stacks
    state.free accepted)

-- ---- bind

-- what a bind found: the home view, a server that is not the thread's home, fewer than fifteen bindings, a key word, and frames
pub record IsBinding (state : State) (thread : Thread) (server : ℕ) : Type 0 where
  pub home : thread.view ≡ 0
  pub away : server ≢ thread.home
  pub registration : Registration
  pub registered : registration_at state server ≡ Some registration
  pub few : length thread.bindings < 15
  pub key : state.keys ≡ first_key state.keys ∷ drop 1 state.keys
  pub room : BIND_FRAMES ≤ state.free

has_registration : (found : Option Registration) → is_registered found ≡ true
    → (registration : Registration) × (found ≡ Some registration)
has_registration None is = absurd cc
has_registration (Some registration) is = (registration, refl)

some_keys : (keys : List ℕ) → (length keys == 0) ≡ false → keys ≡ slice_index keys 0 ∷ drop 1 keys
some_keys [] is = absurd cc
some_keys (key ∷ keys) is = refl

-- a bind that is not refused
pub binding : (state : State) (thread : Thread) (server : ℕ) → refusal_of_bind state thread server ≡ None
    → IsBinding state thread server
unfolding bind_refusal
binding state thread server =
    let Goal : Type 0 = IsBinding state thread server in
    let registered : Bool = is_registered (registration_at state server) in
    none_if Goal (not (thread.view == 0)) _ _
    (λ home. none_if Goal (not (not (server == thread.home) && registered)) _ _
    (λ serves. none_if Goal (nat_le MAX_BINDINGS (length thread.bindings)) _ _
    (λ few. none_if Goal (length state.keys == 0) _ _
    (λ keys. none_if Goal (nat_lt state.free BIND_FRAMES) _ _
    (λ room done.
    let parts = and_parts (not (server == thread.home)) registered (not_false _ serves) in
    let there = has_registration (registration_at state server) parts.1 in
    record {
      home = at_home thread.view home;
      away = eqb-false server thread.home (not-true (server == thread.home) parts.0);
      registration = there.0;
      registered = there.1;
      few = not_most MAX_BINDINGS (length thread.bindings) few;
      key = some_keys state.keys keys;
      room = not_less state.free BIND_FRAMES room;
    })))))

-- ---- protect

-- a page that is not refused is one of the heap's
pub protecting : (count page mode : ℕ) → protect_refusal count page mode ≡ None → page < count
unfolding protect_refusal
protecting count page mode = none_if (page < count) (nat_le count page) _ _ (λ inside rest. not_most count page inside)
