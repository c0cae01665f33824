-- What a state of the machine stands for: a place in nested code, and all that comes behind it.
use Rattle.std.proofs.Common.{◌≡◌, ◌≢◌, ℕ, suc, ◌+◌, ◌<◌, ◌≤◌, List, [], ◌∷◌, ◌++◌, length, Option, Some, None, refl, sym, ap, ◌∙◌, ⊎_elim, arith, append_assoc, length-append, Bool, true, false}
use Rattle.std.specs.Prelude.{slice_get, reverse, nat_lt, cond}
use Rattle.std.proofs.lemmas.Bool.{cases_lt, lt-ltb}
use Rattle.std.proofs.lemmas.List.{length-reverse, map-append, length-map}
use Rattle.wasm_types.specs.declared.instr.ValType.{ValType}
use Rattle.wasm_types.specs.declared.instr.Instr.{Instr}
use Rattle.wasm_types.specs.declared.module.FuncType.{FuncType}
use Rattle.wasm_types.specs.declared.module.Func.{Func}
use Rattle.wasm_types.specs.declared.module.Module.{Module}
use Rattle.wasm_types.specs.Nested.{Code, Nil, Leaf, InBlock, InLoop, IfOnly, IfElse}
use Rattle.wasm_types.specs.Stands.{Closer, ByEnd, end_of, Stands}
use Rattle.wasm_types.specs.Modules.{NestedModule}
use Rattle.module_specs.specs.CodeSpelling.{most_nested}
use Rattle.code_specs.specs.Values.{Value, bits_of, all_bits, most_slots}
use Rattle.code_specs.specs.Stores.{Store}
use Rattle.code_specs.specs.Signatures.{Function, function_at, types_of}
use Rattle.code_specs.specs.Execution.{Answer, Returned, Trapped, Spent, Stuck, Outcome, Return, Over, Invoke, Continuation, within, after_block, after_iteration, loop_outcome, exec, answer_after, after_call, invoke}
use Rattle.machine_steps.specs.declared.frame.Label.{Label}
use Rattle.machine_steps.specs.declared.frame.Frame.{Frame}
use Rattle.machine_steps.specs.Steps.{Step, Go, Stop, most_callers}
use Rattle.machine_steps.specs.Nesting.{Nests}
use Rattle.machine_steps.specs.Answers.{bits_of_answer}

-- an open list, with the operands from before it and what is behind it
pub data OpenList : Type 0 where
  OpenBlock : (result : Option ValType) (closer : Closer) (before : List Value) (rest : Code) → OpenList
  OpenLoop : (closer : Closer) (inner : Code) (before : List Value) (rest : Code) → OpenList

abbrev pub before_of : OpenList → List Value
before_of (OpenBlock r closer before rest) = before
before_of (OpenLoop closer inner before rest) = before

abbrev pub rest_of : OpenList → Code
rest_of (OpenBlock r closer before rest) = rest
rest_of (OpenLoop closer inner before rest) = rest

abbrev pub closer_of : OpenList → Closer
closer_of (OpenBlock r closer before rest) = closer
closer_of (OpenLoop closer inner before rest) = closer

-- what closes the innermost list; the body ends at fin
abbrev pub innermost : List OpenList → (fin : ℕ) → Closer
innermost [] fin = ByEnd fin
innermost (k ∷ ks) fin = closer_of k

-- a frame's operands below those of the innermost list
abbrev pub under : List OpenList → List Value
under [] = []
under (k ∷ ks) = before_of k ++ under ks

-- the slots of a frame with n locals below the operands of the innermost list
abbrev pub held : ℕ → List OpenList → ℕ
held n [] = n
held n (k ∷ ks) = held n ks + length (before_of k)

-- the numbers below the operands of the innermost list
abbrev pub low : List OpenList → (locals : List Value) → (below : List ℕ) → List ℕ
low ks locals below = all_bits (under ks) ++ (reverse (all_bits locals) ++ below)

-- where a branch to it leads
abbrev pub LeadsTo : List Instr → OpenList → Label → Type 0
LeadsTo b (OpenBlock r closer before rest) l = (l.carries ≡ r) × (l.target ≡ end_of closer + 1) × (l.again ≡ false)
LeadsTo b (OpenLoop closer inner before rest) l = (l.carries ≡ None) × (l.again ≡ true) × Stands b inner l.target closer

abbrev pub InnerNests : ℕ → OpenList → Type 0
InnerNests around (OpenBlock r closer before rest) = Unit {0}
InnerNests around (OpenLoop closer inner before rest) = Nests around inner

pub record LabelFits (b : List Instr) (fin h : ℕ) (k : OpenList) (ks : List OpenList) (l : Label) : Type 0 where
  pub height : l.height ≡ length (before_of k ++ under ks) + h
  pub leads : LeadsTo b k l
  pub rest : Stands b (rest_of k) (end_of (closer_of k) + 1) (innermost ks fin)
  pub deep : length ks < most_nested
  pub rest_nests : Nests (length ks) (rest_of k)
  pub inner_nests : InnerNests (suc (length ks)) k

-- the open lists of a frame, whose locals end at height h, and their labels
abbrev pub LabelsFit : List Instr → (fin h : ℕ) → List OpenList → List Label → Type 0
LabelsFit b fin h [] [] = Unit {0}
LabelsFit b fin h [] (l ∷ ls) = ⊥
LabelsFit b fin h (k ∷ ks) [] = ⊥
LabelsFit b fin h (k ∷ ks) (l ∷ ls) = LabelFits b fin h k ks l × LabelsFit b fin h ks ls

-- a function's two forms
pub record Matches (fm : Module) (fn : Function) (f : Func) : Type 0 where
  pub typed : slice_get fm.types f.ty ≡ Some fn.ty
  pub locals : f.locals ≡ fn.locals
  pub fin : ℕ
  pub stands : Stands f.body fn.code 0 (ByEnd fin)
  pub nests : Nests 0 fn.code

-- a module's two forms
pub record Same (m : NestedModule) (fm : Module) : Type 0 where
  pub each : (i : ℕ) (fn : Function) → function_at m i ≡ Some fn → (f : Func) × (slice_get fm.funcs i ≡ Some f) × Matches fm fn f

-- a frame with n locals has these open lists, above these labels and numbers
pub record Around (fm : Module) (func base depth n : ℕ) (ks : List OpenList) (results : List ValType) (labels labels_below : List Label) (below : List ℕ) : Type 0 where
  pub f : Func
  pub has : slice_get fm.funcs func ≡ Some f
  pub ty : FuncType
  pub typed : slice_get fm.types f.ty ≡ Some ty
  pub results_are : reverse ty.results ≡ results
  pub fin : ℕ
  pub mine : List Label
  pub fits : LabelsFit f.body fin (base + n) ks mine
  pub labels_are : labels ≡ mine ++ labels_below
  pub depth_is : depth ≡ length mine
  pub base_is : base ≡ length below

-- and it is at this code, with these locals and operands
pub record FrameFits (fm : Module) (func position base depth : ℕ) (code : Code) (locals operands : List Value) (ks : List OpenList) (results : List ValType) (labels labels_below : List Label) (values below : List ℕ) : Type 0 where
  pub around : Around fm func base depth (length locals) ks results labels labels_below below
  pub stands : Stands around.f.body code position (innermost ks around.fin)
  pub nests : Nests (length ks) code
  pub values_are : values ≡ all_bits operands ++ low ks locals below

-- what a function that waits goes on with
pub record Waiting : Type 0 where
  pub rest : Code
  pub locals : List Value
  pub operands : List Value
  pub ks : List OpenList
  pub results : List ValType

abbrev pub CallersFit : Module → List Waiting → List Frame → List Label → List ℕ → Type 0
CallersFit fm [] [] labels values = (labels ≡ []) × (values ≡ [])
CallersFit fm [] (fr ∷ callers) labels values = ⊥
CallersFit fm (c ∷ cs) [] labels values = ⊥
CallersFit fm (c ∷ cs) (fr ∷ callers) labels values =
    (labels_below : List Label) × (below : List ℕ)
    × FrameFits fm fr.func fr.position fr.base fr.depth c.rest c.locals c.operands c.ks c.results labels labels_below values below
    × (held (length c.locals) c.ks + length c.operands ≤ most_slots) × CallersFit fm cs callers labels_below below

-- ---- what comes behind

-- a list ends in its frame, over so many slots
abbrev pub leave : NestedModule → Invoke → ℕ → OpenList → Outcome → Outcome
leave m call h (OpenBlock r closer before rest) o = after_block (types_of r) before (exec m call h rest) o
leave m call h (OpenLoop closer inner before rest) o =
    after_block [] before (exec m call h rest) (after_iteration (loop_outcome (exec m call (h + length before) inner)) o)

abbrev pub leave_all : NestedModule → Invoke → ℕ → List OpenList → Outcome → Outcome
leave_all m call n [] o = o
leave_all m call n (k ∷ ks) o = leave_all m call n ks (leave m call (held n ks) k o)

-- a call ends, and the functions that wait go on to the end of the run
abbrev pub resume : NestedModule → (frames : ℕ) → List Waiting → Answer Value → Answer Value
resume m d [] a = a
resume m d (c ∷ cs) a =
    resume m (suc d) cs (answer_after c.results (leave_all m (invoke m (suc d)) (length c.locals) c.ks
    (after_call c.operands (exec m (invoke m (suc d)) (held (length c.locals) c.ks) c.rest c.locals) a)))

-- the run's answer from the outcome of the innermost list
abbrev pub answer : NestedModule → (frames : ℕ) → List Waiting → List ValType → ℕ → List OpenList → Outcome → Answer Value
answer m d cs results n ks o = resume m d cs (answer_after results (leave_all m (invoke m d) n ks o))

-- the state stands for a run with this answer
pub record StandsFor (m : NestedModule) (fm : Module) (func position base depth : ℕ) (values : List ℕ) (labels : List Label) (callers : List Frame) (s : Store) (fuel : ℕ) (r : Answer Value) : Type 0 where
  pub code : Code
  pub locals : List Value
  pub operands : List Value
  pub ks : List OpenList
  pub results : List ValType
  pub labels_below : List Label
  pub below : List ℕ
  pub cs : List Waiting
  pub d : ℕ
  pub frame : FrameFits fm func position base depth code locals operands ks results labels labels_below values below
  pub callers_fit : CallersFit fm cs callers labels_below below
  pub room : d + length callers ≡ most_callers
  pub answer_is : answer m d cs results (length locals) ks (exec m (invoke m d) (held (length locals) ks) code locals operands s fuel) ≡ r

-- a step leaves a state that stands for the answer, or gives it
abbrev pub Keeps : NestedModule → Module → Step → Answer Value → Type 0
Keeps m fm (Go func position base depth values labels callers s fuel) r = StandsFor m fm func position base depth values labels callers s fuel r
Keeps m fm (Stop a) r = a ≡ bits_of_answer r

-- ---- what is over is over

over_all : (m : NestedModule) (call : Invoke) (n : ℕ) (ks : List OpenList) (a : Answer Value) → leave_all m call n ks (Over a) ≡ Over a
over_all m call n [] a = refl
over_all m call n (OpenBlock r closer before rest ∷ ks) a = over_all m call n ks a
over_all m call n (OpenLoop closer inner before rest ∷ ks) a = over_all m call n ks a

pub return_all : (m : NestedModule) (call : Invoke) (n : ℕ) (ks : List OpenList) (vs : List Value) (s : Store) (f : ℕ) → leave_all m call n ks (Return vs s f) ≡ Return vs s f
return_all m call n [] vs s f = refl
return_all m call n (OpenBlock r closer before rest ∷ ks) vs s f = return_all m call n ks vs s f
return_all m call n (OpenLoop closer inner before rest ∷ ks) vs s f = return_all m call n ks vs s f

-- no caller goes on behind it
abbrev pub IsLast : Answer Value → Type 0
IsLast (Returned vs s f) = ⊥
IsLast (Trapped kind s f) = Unit {0}
IsLast (Spent s) = Unit {0}
IsLast Stuck = Unit {0}

last_call : (below : List Value) (next : Continuation) (a : Answer Value) → IsLast a → after_call below next a ≡ Over a
last_call below next (Returned vs s f) h = absurd h
last_call below next (Trapped kind s f) h = refl
last_call below next (Spent s) h = refl
last_call below next Stuck h = refl

pub last_resume : (m : NestedModule) (d : ℕ) (cs : List Waiting) (a : Answer Value) → IsLast a → resume m d cs a ≡ a
last_resume m d [] a h = refl
last_resume m d (c ∷ cs) a h =
    ap (λ o. resume m (suc d) cs (answer_after c.results (leave_all m (invoke m (suc d)) (length c.locals) c.ks o))) (last_call c.operands (exec m (invoke m (suc d)) (held (length c.locals) c.ks) c.rest c.locals) a h)
    ∙ ap (λ o. resume m (suc d) cs (answer_after c.results o)) (over_all m (invoke m (suc d)) (length c.locals) c.ks a)
    ∙ last_resume m (suc d) cs a h

pub over_answer : (m : NestedModule) (d : ℕ) (cs : List Waiting) (results : List ValType) (n : ℕ) (ks : List OpenList) (a : Answer Value) → IsLast a → answer m d cs results n ks (Over a) ≡ a
over_answer m d cs results n ks a h = ap (λ o. resume m d cs (answer_after results o)) (over_all m (invoke m d) n ks a) ∙ last_resume m d cs a h

pub stuck_ends : (m : NestedModule) (d : ℕ) (cs : List Waiting) (results : List ValType) (n : ℕ) (ks : List OpenList) (r : Answer Value) → answer m d cs results n ks (Over Stuck) ≡ r → r ≢ Stuck → ⊥
stuck_ends m d cs results n ks r e ok = ok (sym e ∙ over_answer m d cs results n ks Stuck tt)

-- ---- room

below_limit : (k : ℕ) → nat_lt most_slots k ≡ false → k ≤ most_slots
below_limit k e = ⊎_elim (λ lt. absurd (let x : true ≡ false = sym (lt-ltb most_slots k lt) ∙ e in cc)) (λ le. le) (cases_lt most_slots k)

-- where the answer isn't Stuck the operands have room
pub record Roomy (m : NestedModule) (d : ℕ) (cs : List Waiting) (results : List ValType) (n : ℕ) (ks : List OpenList) (k : ℕ) (o : Outcome) (r : Answer Value) : Type 0 where
  pub room : k ≤ most_slots
  pub is : answer m d cs results n ks o ≡ r

roomy_by : (m : NestedModule) (d : ℕ) (cs : List Waiting) (results : List ValType) (n : ℕ) (ks : List OpenList) (k : ℕ) (o : Outcome) (r : Answer Value) → r ≢ Stuck → (b : Bool) → nat_lt most_slots k ≡ b → answer m d cs results n ks (cond b (Over Stuck) o) ≡ r → Roomy m d cs results n ks k o r
roomy_by m d cs results n ks k o r ok true is e = absurd (stuck_ends m d cs results n ks r e ok)
roomy_by m d cs results n ks k o r ok false is e = record { room = below_limit k is; is = e }

pub roomy : (m : NestedModule) (d : ℕ) (cs : List Waiting) (results : List ValType) (n : ℕ) (ks : List OpenList) (h : ℕ) (vs : List Value) (o : Outcome) (r : Answer Value) → r ≢ Stuck → answer m d cs results n ks (within h vs o) ≡ r → Roomy m d cs results n ks (h + length vs) o r
roomy m d cs results n ks h vs o r ok e = roomy_by m d cs results n ks (h + length vs) o r ok (nat_lt most_slots (h + length vs)) refl e

-- each list begins with the test
guarded : (m : NestedModule) (call : Invoke) (h : ℕ) (c : Code) (l vs : List Value) (s : Store) (f : ℕ) → (o : Outcome) × (exec m call h c l vs s f ≡ within h vs o)
guarded m call h Nil l vs s f = (_, refl)
guarded m call h (Leaf i rest) l vs s f = (_, refl)
guarded m call h (InBlock r inner rest) l vs s f = (_, refl)
guarded m call h (InLoop r inner rest) l vs s f = (_, refl)
guarded m call h (IfOnly r inner rest) l vs s f = (_, refl)
guarded m call h (IfElse r first second rest) l vs s f = (_, refl)

pub has_room : (m : NestedModule) (d : ℕ) (cs : List Waiting) (results : List ValType) (n : ℕ) (ks : List OpenList) (h : ℕ) (c : Code) (l vs : List Value) (s : Store) (f : ℕ) (r : Answer Value) → r ≢ Stuck → answer m d cs results n ks (exec m (invoke m d) h c l vs s f) ≡ r → h + length vs ≤ most_slots
has_room m d cs results n ks h c l vs s f r ok e =
    let g = guarded m (invoke m d) h c l vs s f in
    (roomy m d cs results n ks h vs g.0 r ok (ap (answer m d cs results n ks) (sym g.1) ∙ e)).room

-- ---- lengths

pub low_cons : (k : OpenList) (ks : List OpenList) (l : List Value) (below : List ℕ) → low (k ∷ ks) l below ≡ all_bits (before_of k) ++ low ks l below
low_cons k ks l below =
    ap (λ u. u ++ (reverse (all_bits l) ++ below)) (map-append bits_of (before_of k) (under ks))
    ∙ append_assoc (all_bits (before_of k)) (all_bits (under ks)) (reverse (all_bits l) ++ below)

pub low_length : (ks : List OpenList) (l : List Value) (below : List ℕ) → length (low ks l below) ≡ length (under ks) + (length l + length below)
low_length ks l below =
    omega (arith, length-append (all_bits (under ks)) (reverse (all_bits l) ++ below), length-append (reverse (all_bits l)) below, length-reverse (all_bits l), length-map (under ks) bits_of, length-map l bits_of)
