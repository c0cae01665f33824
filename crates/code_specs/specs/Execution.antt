-- What code does: blocks, loops, branches and calls (WebAssembly Core 1.0, sections 4.4.5 to 4.4.8), with the cost, the
-- depth and the room that this project adds: each instruction takes a unit of fuel before it begins, at most 256 frames
-- are open, and a frame has at most 4,096 slots for its locals and operands. Stacks stand with the top first.
use Rattle.std.specs.Prelude.{ℕ, zero, suc, ◌+◌, ◌-◌, ◌==◌, List, [], ◌∷◌, ◌++◌, Option, Some, None, length, map, reverse, nat_lt, slice_get, slice_set, if◌then◌else◌}
use Rattle.wasm_types.specs.declared.instr.ValType.{ValType}
use Rattle.wasm_types.specs.declared.instr.ValType.TheVariants.{I32}
use Rattle.wasm_types.specs.Nested.{Code, Nil, Leaf, InBlock, InLoop, IfOnly, IfElse}
use Rattle.wasm_types.specs.Modules.{NestedModule}
use Rattle.code_specs.specs.declared.trap.TrapKind.{TrapKind}
use Rattle.code_specs.specs.declared.trap.TrapKind.TheVariants.{Depth}
use Rattle.code_specs.specs.Values.{Value, Split, is_same, zero_of, split, most_slots}
use Rattle.code_specs.specs.Stores.{Store}
use Rattle.code_specs.specs.Signatures.{Function, function_at, types_of}
use Rattle.code_specs.specs.Effects.{Effect, typed, effect_of}
use Rattle.code_specs.specs.Effects as effect

abbrev pub most_frames : ℕ
most_frames = 256

-- How a call ends. Where it is Spent no fuel is left. It is Stuck where an operand, local, label or function is missing,
-- where an operand has another type, or where a frame has too many slots; typed code never is.
pub data Answer (V : Type 0) : Type 0 where
  Returned : (values : List V) (store : Store) (fuel : ℕ) → Answer V
  Trapped : (kind : TrapKind) (store : Store) (fuel : ℕ) → Answer V
  Spent : (store : Store) → Answer V
  Stuck : Answer V

-- how a list of instructions ends: at its end, with a branch to a label, with a return, or with the call
pub data Outcome : Type 0 where
  Next : (locals operands : List Value) (store : Store) (fuel : ℕ) → Outcome
  Branch : (label : ℕ) (locals operands : List Value) (store : Store) (fuel : ℕ) → Outcome
  Return : (operands : List Value) (store : Store) (fuel : ℕ) → Outcome
  Over : (answer : Answer Value) → Outcome

-- what comes of locals, operands, a store and fuel
abbrev pub Run : Type 0
Run = (locals operands : List Value) → Store → (fuel : ℕ) → Outcome

-- what comes behind a call, of the operands then left, the store and the fuel
abbrev pub Continuation : Type 0
Continuation = (operands : List Value) → Store → (fuel : ℕ) → Outcome

-- a call of a function, by its index, with its arguments on top of the operands, and what comes behind it
abbrev pub Invoke : Type 0
Invoke = (index : ℕ) → (operands : List Value) → Store → (fuel : ℕ) → Continuation → Outcome

abbrev pub on_found : {A : Type 0} → Option A → (A → Outcome) → Outcome
on_found None go = Over Stuck
on_found (Some x) go = go x

-- ---- lists of instructions

-- a unit is taken, or the call is over
abbrev pub paying : Store → (fuel : ℕ) → (ℕ → Outcome) → Outcome
paying s zero go = Over (Spent s)
paying s (suc fuel) go = go fuel

-- a frame with these operands over this many slots has room for them
abbrev pub within : (held : ℕ) → List Value → Outcome → Outcome
within held operands outcome = if nat_lt most_slots (held + length operands) then Over Stuck else outcome

-- an instruction has taken its unit, and these instructions come next
abbrev pub after_effect : Invoke → Run → Effect Value → List Value → Store → (fuel : ℕ) → Outcome
after_effect call next (effect.Continues operands store) locals s fuel = next locals operands store fuel
after_effect call next (effect.ReadsLocal index operands) locals s fuel =
    on_found (slice_get locals index) (λ v. next locals (v ∷ operands) s fuel)
after_effect call next (effect.WritesLocal index v operands) locals s fuel =
    on_found (slice_get locals index) (λ old.
    if is_same old.ty v.ty then next (slice_set locals index v) operands s fuel else Over Stuck)
after_effect call next (effect.Branches label operands) locals s fuel = Branch label locals operands s fuel
after_effect call next (effect.Returns operands) locals s fuel = Return operands s fuel
after_effect call next (effect.Calls index operands) locals s fuel = call index operands s fuel (next locals)
after_effect call next (effect.Traps kind) locals s fuel = Over (Trapped kind s fuel)
after_effect call next effect.Stuck locals s fuel = Over Stuck

-- A block with these results ends, by itself or by a branch to its label: what is behind it goes on over the operands
-- from before it. A branch to another label is one label nearer to it now.
abbrev pub after_block : List ValType → List Value → Run → Outcome → Outcome
after_block results before next (Next locals operands s fuel) = next locals (operands ++ before) s fuel
after_block results before next (Branch zero locals operands s fuel) =
    on_found (split results operands) (λ (vs : Split Value). next locals (vs.top ++ before) s fuel)
after_block results before next (Branch (suc label) locals operands s fuel) = Branch label locals operands s fuel
after_block results before next (Return operands s fuel) = Return operands s fuel
after_block results before next (Over answer) = Over answer

-- a branch to the label of a loop carries no operands, and begins the next iteration
abbrev pub after_iteration : (List Value → Store → (fuel : ℕ) → Outcome) → Outcome → Outcome
after_iteration next (Next locals operands s fuel) = Next locals operands s fuel
after_iteration next (Branch zero locals operands s fuel) = next locals s fuel
after_iteration next (Branch (suc label) locals operands s fuel) = Branch (suc label) locals operands s fuel
after_iteration next (Return operands s fuel) = Return operands s fuel
after_iteration next (Over answer) = Over answer

-- at most so many iterations
abbrev pub iterations : ℕ → Run → List Value → Store → (fuel : ℕ) → Outcome
iterations zero body locals s fuel = Over (Spent s)
iterations (suc n) body locals s fuel = after_iteration (iterations n body) (body locals [] s fuel)

-- each iteration but the last takes a unit, so there is at most one more than there are units
abbrev pub loop_outcome : Run → List Value → Store → (fuel : ℕ) → Outcome
loop_outcome body locals s fuel = iterations (suc fuel) body locals s fuel

-- a condition picks one of two, over the operands below it
abbrev pub choice : List Value → (one other : List Value → Outcome) → Outcome
choice operands one other = on_found (split (I32 ∷ []) operands) (λ s. of_top s.top s.below)
  where
    of_top : List Value → List Value → Outcome
    of_top [] below = Over Stuck
    of_top (c ∷ none) below = if c.bits == 0 then other below else one below

-- What a list of instructions does. Under its operands the frame holds so many slots: its locals, and the operands of
-- the lists around this one.
abbrev pub exec : NestedModule → Invoke → (held : ℕ) → Code → Run
exec m call held Nil locals operands s fuel = within held operands (Next locals operands s fuel)
exec m call held (Leaf i rest) locals operands s fuel =
    within held operands (paying s fuel (λ fuel.
    after_effect call (exec m call held rest) (effect_of typed m i operands s) locals s fuel))
exec m call held (InBlock r inner rest) locals operands s fuel =
    within held operands (paying s fuel (λ fuel.
    after_block (types_of r) operands (exec m call held rest)
    (exec m call (held + length operands) inner locals [] s fuel)))
exec m call held (InLoop r inner rest) locals operands s fuel =
    within held operands (paying s fuel (λ fuel.
    after_block [] operands (exec m call held rest)
    (loop_outcome (exec m call (held + length operands) inner) locals s fuel)))
exec m call held (IfOnly r inner rest) locals operands s fuel =
    within held operands (paying s fuel (λ fuel.
    choice operands
    (λ below. after_block (types_of r) below (exec m call held rest)
    (exec m call (held + length below) inner locals [] s fuel))
    (λ below. exec m call held rest locals below s fuel)))
exec m call held (IfElse r first second rest) locals operands s fuel =
    within held operands (paying s fuel (λ fuel.
    choice operands
    (λ below. after_block (types_of r) below (exec m call held rest)
    (exec m call (held + length below) first locals [] s fuel))
    (λ below. after_block (types_of r) below (exec m call held rest)
    (exec m call (held + length below) second locals [] s fuel))))

-- ---- calls (4.4.7)

-- the results on top are what is returned
abbrev pub answer_with : Option (Split Value) → Store → (fuel : ℕ) → Answer Value
answer_with None s fuel = Stuck
answer_with (Some vs) s fuel = Returned vs.top s fuel

-- a body ends, by itself, by a branch to the label of the body, or by a return
abbrev pub answer_after : List ValType → Outcome → Answer Value
answer_after results (Next locals operands s fuel) = answer_with (split results operands) s fuel
answer_after results (Branch zero locals operands s fuel) = answer_with (split results operands) s fuel
answer_after results (Branch (suc label) locals operands s fuel) = Stuck
answer_after results (Return operands s fuel) = answer_with (split results operands) s fuel
answer_after results (Over answer) = answer

-- a function over its locals
abbrev pub body_answer : NestedModule → Invoke → Function → (locals : List Value) → Store → (fuel : ℕ) → Answer Value
body_answer m call f locals s fuel =
    answer_after (reverse f.ty.results) (exec m call (length locals) f.code locals [] s fuel)

-- a function with its arguments, the last one first; the other locals begin with 0
abbrev pub function_answer :
    NestedModule → Invoke → Function → (arguments : List Value) → Store → (fuel : ℕ) → Answer Value
function_answer m call f arguments s fuel = body_answer m call f (reverse arguments ++ map zero_of f.locals) s fuel

-- the caller goes on with what is returned on top of its operands
abbrev pub after_call : (below : List Value) → Continuation → Answer Value → Outcome
after_call below next (Returned vs s fuel) = next (vs ++ below) s fuel
after_call below next (Trapped kind s fuel) = Over (Trapped kind s fuel)
after_call below next (Spent s) = Over (Spent s)
after_call below next Stuck = Over Stuck

-- calls where so many frames may still be opened
unfoldable pub invoke : NestedModule → (frames : ℕ) → Invoke
invoke m zero index operands s fuel next = Over (Trapped Depth s fuel)
invoke m (suc frames) index operands s fuel next =
    on_found (function_at m index) (λ f.
    on_found (split (reverse f.ty.params) operands) (λ arguments.
    after_call arguments.below next (function_answer m (invoke m frames) f arguments.top s fuel)))

-- numbers as values of these types
abbrev pub arguments_of : List ValType → List ℕ → List Value
arguments_of [] ns = []
arguments_of (t ∷ ts) [] = []
arguments_of (t ∷ ts) (n ∷ ns) = record { ty = t; bits = n } ∷ arguments_of ts ns

abbrev pub answer_of_function : NestedModule → Option Function → List ℕ → Store → (fuel : ℕ) → Answer Value
answer_of_function m None arguments s fuel = Stuck
answer_of_function m (Some f) arguments s fuel =
    function_answer m (invoke m (most_frames - 1)) f (reverse (arguments_of f.ty.params arguments)) s fuel

-- a call from outside, in the first frame, with the numbers of its arguments in order (4.5.5)
unfoldable pub answer_of : NestedModule → (index : ℕ) → (arguments : List ℕ) → Store → (fuel : ℕ) → Answer Value
answer_of m index arguments s fuel = answer_of_function m (function_at m index) arguments s fuel

-- what is left of the fuel
abbrev pub fuel_left : {V : Type 0} → Answer V → ℕ
fuel_left (Returned vs s fuel) = fuel
fuel_left (Trapped kind s fuel) = fuel
fuel_left (Spent s) = 0
fuel_left Stuck = 0
