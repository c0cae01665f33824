-- One step of a machine over flat code and bare numbers. Values, labels and callers stand with the topmost first.
use Rattle.std.specs.Prelude.{ℕ, zero, suc, ◌+◌, ◌-◌, ◌==◌, true, false, List, [], ◌∷◌, ◌++◌, Option, Some, None, drop, length, nat_lt, replicate, reverse, slice_get, slice_set, if◌then◌else◌}
use Rattle.wasm_types.specs.declared.instr.ValType.{ValType}
use Rattle.wasm_types.specs.declared.instr.Instr.{Instr}
use Rattle.wasm_types.specs.declared.instr.Instr.TheVariants.{Block, Loop, If, Else, End}
use Rattle.wasm_types.specs.declared.module.FuncType.{FuncType}
use Rattle.wasm_types.specs.declared.module.Func.{Func}
use Rattle.wasm_types.specs.declared.module.Module.{Module}
use Rattle.wasm_types.specs.Modules.{NestedModule}
use Rattle.code_specs.specs.declared.trap.TrapKind.TheVariants.{Depth}
use Rattle.code_specs.specs.Values.{Split, split_first}
use Rattle.code_specs.specs.Stores.{Store}
use Rattle.code_specs.specs.Signatures.{types_of}
use Rattle.code_specs.specs.Effects.{Effect, Continues, ReadsLocal, WritesLocal, Branches, Returns, Calls, Traps, bare, effect_of}
use Rattle.code_specs.specs.Effects as effect
use Rattle.code_specs.specs.Execution.{Answer, Returned, Trapped, Spent, Stuck}
use Rattle.machine_steps.specs.declared.frame.Label.{Label}
use Rattle.machine_steps.specs.declared.frame.Frame.{Frame}

-- What comes of a step. A run goes on: in this function, at this position, with this first local and so many open lists;
-- with these values, the open lists and the waiting functions, the store and the fuel. Or it is over.
pub data Step : Type 0 where
  Go : (func position base depth : ℕ) (values : List ℕ) (labels : List Label) (callers : List Frame) (store : Store) (fuel : ℕ) → Step
  Stop : (answer : Answer ℕ) → Step

-- the values from below up to a height
abbrev pub cut : (height : ℕ) → List ℕ → List ℕ
cut height values = drop (length values - height) values

abbrev pub where_found : {A : Type 0} → Option A → (A → Step) → Step
where_found None go = Stop Stuck
where_found (Some x) go = go x

abbrev pub where_split : Option (Split ℕ) → (List ℕ → List ℕ → Step) → Step
where_split None go = Stop Stuck
where_split (Some s) go = go s.top s.below

-- a unit is taken, or the run is over
abbrev pub taking : Store → (fuel : ℕ) → (ℕ → Step) → Step
taking s zero go = Stop (Spent s)
taking s (suc fuel) go = go fuel

-- a function of the module with its type
abbrev pub with_function : Module → (index : ℕ) → (Func → FuncType → Step) → Step
with_function fm index go =
    where_found (slice_get fm.funcs index) (λ f. where_found (slice_get fm.types f.ty) (λ t. go f t))

-- ---- calls

-- the function that waits goes on, or the run is over
abbrev pub back : (base depth : ℕ) (results below : List ℕ) (labels : List Label) (callers : List Frame) → Store → (fuel : ℕ) → Step
back base depth results below labels [] s fuel = Stop (Returned results s fuel)
back base depth results below labels (fr ∷ callers) s fuel =
    Go fr.func fr.position fr.base fr.depth (results ++ cut base below) (drop depth labels) callers s fuel

abbrev pub returning : Module → (func base depth : ℕ) (values : List ℕ) (labels : List Label) (callers : List Frame) → Store → (fuel : ℕ) → Step
returning fm func base depth values labels callers s fuel =
    with_function fm func (λ f t. where_split (split_first (length t.results) values) (λ top below. back base depth top below labels callers s fuel))

-- the functions that may wait
abbrev pub most_callers : ℕ
most_callers = 255

-- a call: the arguments are the first locals of the function where they stand, and zeros are the others
abbrev pub calling : Module → (index func position base depth : ℕ) (values : List ℕ) (labels : List Label) (callers : List Frame) → Store → (fuel : ℕ) → Step
calling fm index func position base depth values labels callers s fuel =
    if nat_lt (length callers) most_callers
    then with_function fm index (λ f t. where_split (split_first (length t.params) values) (λ top below.
    Go index 0 (length below) 0 (replicate (length f.locals) 0 ++ values) labels
    (record { func = func; position = position + 1; base = base; depth = depth } ∷ callers) s fuel))
    else Stop (Trapped Depth s fuel)

-- ---- lists

-- the open lists that a branch closes, where so many lie inside the one that it leads to
abbrev pub closed_by : Label → ℕ → ℕ
closed_by l inside = if l.again then inside else suc inside

-- a branch to an open list
abbrev pub landing : Label → (label func base depth : ℕ) (top below : List ℕ) (labels : List Label) (callers : List Frame) → Store → (fuel : ℕ) → Step
landing l label func base depth top below labels callers s fuel =
    Go func l.target base (depth - closed_by l label) (top ++ cut l.height below) (drop (closed_by l label) labels) callers s fuel

-- a branch; past the open lists it returns
abbrev pub branching : Module → (label func base depth : ℕ) (values : List ℕ) (labels : List Label) (callers : List Frame) → Store → (fuel : ℕ) → Step
branching fm label func base depth values labels callers s fuel =
    if nat_lt label depth
    then where_found (slice_get labels label) (λ l. where_split (split_first (length (types_of l.carries)) values) (λ top below.
    landing l label func base depth top below labels callers s fuel))
    else returning fm func base depth values labels callers s fuel

-- a list ends, and this position comes next
abbrev pub closing : Module → (func position base depth : ℕ) (values : List ℕ) (labels : List Label) (callers : List Frame) → Store → (fuel : ℕ) → Step
closing fm func position base zero values labels callers s fuel = returning fm func base 0 values labels callers s fuel
closing fm func position base (suc depth) values labels callers s fuel = Go func position base depth values (drop 1 labels) callers s fuel

-- the label of a block that ends at this position, or of a loop whose list begins there
abbrev pub block_label : (end height : ℕ) → Option ValType → Label
block_label end height r = record { target = end + 1; height = height; carries = r; again = false }

abbrev pub loop_label : (position height : ℕ) → Label
loop_label position height = record { target = position; height = height; carries = None; again = true }

-- where the second list of an if begins, or what is behind an if that has none
abbrev pub other_list : Option ValType → Option ℕ → (end func base depth : ℕ) (values : List ℕ) (labels : List Label) (callers : List Frame) → Store → (fuel : ℕ) → Step
other_list r None end func base depth values labels callers s fuel = Go func (end + 1) base depth values labels callers s fuel
other_list r (Some q) end func base depth values labels callers s fuel =
    Go func (q + 1) base (depth + 1) values (block_label end (length values) r ∷ labels) callers s fuel

-- an if, by the condition on top
abbrev pub choosing : Option ValType → Option ℕ → (end func position base depth : ℕ) (values : List ℕ) (labels : List Label) (callers : List Frame) → Store → (fuel : ℕ) → Step
choosing r q end func position base depth [] labels callers s fuel = Stop Stuck
choosing r q end func position base depth (c ∷ values) labels callers s fuel =
    if c == 0
    then other_list r q end func base depth values labels callers s fuel
    else Go func (position + 1) base (depth + 1) values (block_label end (length values) r ∷ labels) callers s fuel

-- ---- instructions

-- an instruction that neither opens nor closes a list has taken its unit
abbrev pub doing : Module → Effect ℕ → (func position base depth : ℕ) (labels : List Label) (callers : List Frame) → Store → (fuel : ℕ) → Step
doing fm (Continues values store) func position base depth labels callers s fuel =
    Go func (position + 1) base depth values labels callers store fuel
doing fm (ReadsLocal index values) func position base depth labels callers s fuel =
    where_found (slice_get (reverse values) (base + index)) (λ n. Go func (position + 1) base depth (n ∷ values) labels callers s fuel)
doing fm (WritesLocal index n values) func position base depth labels callers s fuel =
    where_found (slice_get (reverse values) (base + index)) (λ old.
    Go func (position + 1) base depth (reverse (slice_set (reverse values) (base + index) n)) labels callers s fuel)
doing fm (Branches label values) func position base depth labels callers s fuel = branching fm label func base depth values labels callers s fuel
doing fm (Returns values) func position base depth labels callers s fuel = returning fm func base depth values labels callers s fuel
doing fm (Calls index values) func position base depth labels callers s fuel =
    calling fm index func position base depth values labels callers s fuel
doing fm (Traps kind) func position base depth labels callers s fuel = Stop (Trapped kind s fuel)
doing fm effect.Stuck func position base depth labels callers s fuel = Stop Stuck

-- the instruction at the position
abbrev pub executing : NestedModule → Module → Option Instr → (func position base depth : ℕ) (values : List ℕ) (labels : List Label) (callers : List Frame) → Store → (fuel : ℕ) → Step
executing m fm None func position base depth values labels callers s fuel = Stop Stuck
executing m fm (Some (Block r e)) func position base depth values labels callers s fuel =
    taking s fuel (λ fuel. Go func (position + 1) base (depth + 1) values (block_label e (length values) r ∷ labels) callers s fuel)
executing m fm (Some (Loop r e)) func position base depth values labels callers s fuel =
    taking s fuel (λ fuel. Go func (position + 1) base (depth + 1) values (loop_label (position + 1) (length values) ∷ labels) callers s fuel)
executing m fm (Some (If r q e)) func position base depth values labels callers s fuel =
    taking s fuel (λ fuel. choosing r q e func position base depth values labels callers s fuel)
executing m fm (Some (Else e)) func position base depth values labels callers s fuel =
    closing fm func (e + 1) base depth values labels callers s fuel
executing m fm (Some End) func position base depth values labels callers s fuel =
    closing fm func (position + 1) base depth values labels callers s fuel
executing m fm (Some i) func position base depth values labels callers s fuel =
    taking s fuel (λ fuel. doing fm (effect_of bare m i values s) func position base depth labels callers s fuel)

-- the machine's step
abbrev pub step_of : NestedModule → Module → (func position base depth : ℕ) (values : List ℕ) (labels : List Label) (callers : List Frame) → Store → (fuel : ℕ) → Step
step_of m fm func position base depth values labels callers s fuel =
    where_found (slice_get fm.funcs func) (λ (f : Func). executing m fm (slice_get f.body position) func position base depth values labels callers s fuel)
