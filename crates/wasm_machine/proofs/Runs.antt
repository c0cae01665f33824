-- A whole run of the machine.
use Rattle.std.proofs.Common.{◌≡◌, ◌≢◌, ℕ, ◌+◌, ◌*◌, ◌<◌, ◌≤◌, List, [], ◌++◌, length, Some, None, refl, sym, ap, ◌∙◌, subst, arith}
use Rattle.std.specs.Prelude.{suc, slice_get, reverse, replicate}
use Rattle.wasm_types.specs.declared.module.Func.{Func}
use Rattle.wasm_types.specs.declared.module.Module.{Module}
use Rattle.wasm_types.specs.Modules.{HasPlainFuncs}
use Rattle.wasm_types.specs.Back.{nested_module}
use Rattle.wasm_types.proofs.Spelled.{plain_module}
use Rattle.module_specs.proofs.SpellableParts.{module_fits}
use Rattle.code_specs.specs.Values.{Value}
use Rattle.code_specs.specs.Stores.{Store}
use Rattle.code_specs.specs.Execution.{Answer, Returned, Trapped, Spent, Stuck, fuel_left}
use Rattle.code_specs.specs.Validity.{IsValid}
use Rattle.code_laws.specs.Kept.{LeavesBytes}
use Rattle.code_laws.proofs.Calling.{never_stuck}
use Rattle.wasm_types.specs.declared.instr.Instr.{Instr}
use Rattle.machine_steps.specs.Steps.{Step, Go, Stop, where_found, executing}
use Rattle.machine_steps.specs.Modules.{IsReady}
use Rattle.machine_steps.specs.Rooms.{HasRoom}
use Rattle.machine_steps.specs.Answers.{bits_of_answer}
use Rattle.machine_steps.proofs.States.{Same, StandsFor, Keeps}
use Rattle.machine_steps.proofs.Following.{keeps}
use Rattle.machine_steps.proofs.Measure.{Falls, step_falls}
use Rattle.machine_steps.proofs.Spelled.{limits_are, same_forms, nested_is, ready_is}
use Rattle.machine_steps.proofs.Whole.{room_is, begins, first_room, never_stops_stuck, bytes_stay}
use Rattle.wasm_validate.specs.Valid.{IsChecked}
use Rattle.wasm_machine.specs.declared.stack.Stack.{Stack}
use Rattle.wasm_machine.specs.declared.stack.Turn.{Turn}
use Rattle.wasm_machine.specs.declared.stack.Turn.TheVariants as turn
use Rattle.wasm_machine.specs.Seen.{seen, step_in, executing_in}
use Rattle.wasm_memory.specs.Pools.{Tables}
use Rattle.wasm_machine.specs.declared.instance.Instance.{Instance}
use Rattle.wasm_machine.specs.Instances.{LargerStep, Stands, Leaves}
use Rattle.wasm_machine.specs.Calls.{Fits, meant, answer_at, KeepsSize}

-- ---- checked modules

plain_of : (fm : Module) (c : IsChecked fm) → HasPlainFuncs c.spelled.nested
plain_of fm c = plain_module c.spelled.nested (module_fits c.spelled.nested c.spelled.bytes c.spelled.spelled)

pub same_of : (fm : Module) → IsChecked fm → Same (nested_module fm) fm
same_of fm c = same_forms fm c.spelled.nested c.spelled.flat (plain_of fm c) (limits_are c.spelled.nested c.spelled.bytes c.spelled.spelled)

pub ready_of : (fm : Module) → IsChecked fm → IsReady fm
ready_of fm c =
    let n = c.spelled.nested in
    let valid : IsValid n = subst IsValid (nested_is fm n c.spelled.flat (plain_of fm c)) c.valid in
    ready_is fm n c.spelled.flat (limits_are n c.spelled.bytes c.spelled.spelled) (module_fits n c.spelled.bytes c.spelled.spelled) valid

-- ---- the run

-- the stack stands for the call's answer
abbrev pub Stays : Module → Stack → Store → ℕ → Answer Value → Type 0
Stays fm k s f r = StandsFor (nested_module fm) fm k.func k.position k.base k.depth k.values k.labels k.callers s f r

module _ (fm : Module) (c : IsChecked fm) (i : ℕ) (arguments : List ℕ) (q : Fits fm i arguments) (s0 : Store) (f0 : ℕ) where
  abbrev r : Answer Value
  r = meant fm i arguments s0 f0

  pub is_fine : meant fm i arguments s0 f0 ≢ Stuck
  is_fine = never_stuck (nested_module fm) c.valid i q.f arguments s0 f0 q.is q.fit

  pub has_func : slice_get fm.funcs i ≢ None
  has_func none = let x = (same_of fm c).each i q.f q.is in let wrong : None ≡ Some x.0 = sym none ∙ x.1 in cc

  pub arguments_room : (f : Func) → slice_get fm.funcs i ≡ Some f → length f.locals + length arguments ≤ 4096
  arguments_room f at = first_room (nested_module fm) fm (same_of fm c) c.valid i q.f f arguments q.is at q.fit

  pub starts : (f : Func) (values : List ℕ) → slice_get fm.funcs i ≡ Some f → values ≡ replicate (length f.locals) 0 ++ reverse arguments
      → StandsFor (nested_module fm) fm i 0 0 0 values [] [] s0 f0 (meant fm i arguments s0 f0)
  starts f values at is = begins (nested_module fm) fm (same_of fm c) i q.f f arguments values s0 f0 q.is at q.fit is

  pub stays_fine : (k : Stack) (s : Store) (f : ℕ) → Stays fm k s f (meant fm i arguments s0 f0) → step_in fm k s f ≢ Stop Stuck
  stays_fine k s f x = never_stops_stuck (nested_module fm) fm (same_of fm c) k.func k.position k.base k.depth k.values k.labels k.callers s
      f r is_fine x

  pub stays_roomy : (k : Stack) (s : Store) (f : ℕ) → Stays fm k s f (meant fm i arguments s0 f0)
      → HasRoom k.depth k.values k.labels k.callers
  stays_roomy k s f x = room_is (nested_module fm) fm k.func k.position k.base k.depth k.values k.labels k.callers s f r is_fine x

  kept : (k : Stack) (s : Store) (f : ℕ) → Stays fm k s f r → Keeps (nested_module fm) fm (step_in fm k s f) r
  kept k s f x = keeps (nested_module fm) fm (same_of fm c) k.func k.position k.base k.depth k.values k.labels k.callers s f r is_fine x

  pub stays_on : (k new : Stack) (s t : Store) (f g : ℕ) → Stays fm k s f (meant fm i arguments s0 f0)
      → step_in fm k s f ≡ seen turn.Go new t g → Stays fm new t g (meant fm i arguments s0 f0)
  stays_on k new s t f g x e = subst (λ st. Keeps (nested_module fm) fm st r) e (kept k s f x)

  answered : (t : Turn) (k : Stack) (s : Store) (g : ℕ) → t ≢ turn.Go → Keeps (nested_module fm) fm (seen t k s g) r
      → answer_at t s g ≡ bits_of_answer r
  answered turn.Go k s g other h = absurd (other refl)
  answered (turn.Returned v) k s g other h = h
  answered (turn.Trapped kind) k s g other h = h
  answered turn.Spent k s g other h = h

  pub stops : (t : Turn) (k new : Stack) (s u : Store) (f g : ℕ) → t ≢ turn.Go → Stays fm k s f (meant fm i arguments s0 f0)
      → step_in fm k s f ≡ seen t new u g → answer_at t u g ≡ bits_of_answer (meant fm i arguments s0 f0)
  stops t k new s u f g other x e = answered t new u g other (subst (λ st. Keeps (nested_module fm) fm st r) e (kept k s f x))

-- the measure
abbrev pub left_of : Stack → ℕ → ℕ
left_of k f = 2 * f + (length k.labels + length k.callers)

pub falls : (fm : Module) (n : ℕ) (k new : Stack) (s t : Store) (f g : ℕ) → n ≤ length s.bytes → k.depth ≤ length k.labels
    → step_in fm k s f ≡ seen turn.Go new t g → (left_of new g < left_of k f) × (n ≤ length t.bytes)
falls fm n k new s t f g le inside e =
    subst (Falls (left_of k f) n) e (step_falls (nested_module fm) fm n s le k.func k.position k.base k.depth k.values k.labels k.callers f
    inside)

-- ---- memory

too_many : (n k : ℕ) (r : Answer Value) → LeavesBytes k r → n < k → KeepsSize n r → r ≢ Stuck → ⊥
too_many n k (Returned vs s f) l lt h ok = absurd (omega (arith, l, lt, h))
too_many n k (Trapped kind s f) l lt h ok = absurd (omega (arith, l, lt, h))
too_many n k (Spent s) l lt h ok = absurd (omega (arith, l, lt, h))
too_many n k Stuck l lt h ok = ok refl

module _ (fm : Module) (c : IsChecked fm) (r : Answer Value) (ok : r ≢ Stuck) (n : ℕ) (size : KeepsSize n r) where
  larger_ends : (st : Step) → LargerStep n st → Keeps (nested_module fm) fm st r → ⊥
  larger_ends (Go func position base depth values labels callers s f) lt x =
      let st = Go func position base depth values labels callers s f in
      let m = 2 * f + (length labels + length callers) in
      let all = bytes_stay (nested_module fm) fm (same_of fm c) st (length s.bytes) (m + 1) r ok (omega arith, omega arith) x in
      too_many n (length s.bytes) r all lt size ok
  larger_ends (Stop a) lt x = lt

larger_more : (n k : ℕ) (st : Step) → n ≤ k → LargerStep k st → LargerStep n st
larger_more n k (Go func position base depth values labels callers s f) le lt = omega (arith, le, lt)
larger_more n k (Stop a) le lt = lt

-- a step that would leave more bytes than there were before the call
pub never_larger : (fm : Module) (c : IsChecked fm) (i : ℕ) (arguments : List ℕ) (q : Fits fm i arguments) (s0 : Store) (f0 : ℕ) (k : Stack)
    (s : Store) (f : ℕ)
    → Stays fm k s f (meant fm i arguments s0 f0) → length s0.bytes ≤ length s.bytes → LargerStep (length s.bytes) (step_in fm k s f)
    → KeepsSize (length s0.bytes) (meant fm i arguments s0 f0) → ⊥
never_larger fm c i arguments q s0 f0 k s f x le lt size =
    let r = meant fm i arguments s0 f0 in
    let ok = is_fine fm c i arguments q s0 f0 in
    let st = step_in fm k s f in
    larger_ends fm c r ok (length s0.bytes) size st (larger_more (length s0.bytes) (length s.bytes) st le lt)
    (keeps (nested_module fm) fm (same_of fm c) k.func k.position k.base k.depth k.values k.labels k.callers s f r ok x)

-- a step at an instruction, with a unit
pub step_is : (fm : Module) (k : Stack) (s : Store) (f g : ℕ) (fl : Func) (x : Instr) → slice_get fm.funcs k.func ≡ Some fl
    → slice_get fl.body k.position ≡ Some x → f ≡ suc g → step_in fm k s f ≡ executing_in fm x k s g
step_is fm k s f g fl x has at e =
    ap (λ o. where_found o (λ (fl : Func). executing (nested_module fm) fm (slice_get fl.body k.position) k.func k.position k.base k.depth
    k.values k.labels k.callers s f)) has
    ∙ ap (λ o. executing (nested_module fm) fm o k.func k.position k.base k.depth k.values k.labels k.callers s f) at
    ∙ ap (λ f. executing (nested_module fm) fm (Some x) k.func k.position k.base k.depth k.values k.labels k.callers s f) e

-- ---- what each step leaves

pub leaves_first : (fm : Module) (pool : Tables) (i : Instance) → Stands fm pool i → Leaves fm pool pool i i
leaves_first fm pool i x = record { made = x.made; there = x.there; table = refl; others = λ u ne. refl; unshared = λ t h. h }

pub leaves_more : (fm : Module) (one two three : Tables) (i j k : Instance) → Leaves fm one two i j → Leaves fm two three j k
    → Leaves fm one three i k
leaves_more fm one two three i j k x y = record {
  made = y.made;
  there = y.there;
  table = y.table ∙ x.table;
  others = λ u ne. y.others u (λ e. ne (e ∙ x.table)) ∙ x.others u ne;
  unshared = λ t h. y.unshared t (x.unshared t h);
}

-- ---- outcomes

pub left_in_bits : (a : Answer ℕ) (r : Answer Value) → a ≡ bits_of_answer r → fuel_left a ≡ fuel_left r
left_in_bits a (Returned vs s f) e = ap fuel_left e
left_in_bits a (Trapped kind s f) e = ap fuel_left e
left_in_bits a (Spent s) e = ap fuel_left e
left_in_bits a Stuck e = ap fuel_left e
