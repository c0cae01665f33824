-- The machine over flat code follows the nested code: each step keeps the run's answer.
use Rattle.std.proofs.Common.{◌≡◌, ◌≢◌, ℕ, zero, suc, ◌+◌, ◌<◌, ◌≤◌, List, [], ◌∷◌, ◌++◌, length, Option, Some, None, refl, sym, ap, ◌∙◌, subst, arith, append_assoc, length-append, drop, Bool, true, false}
use Rattle.std.specs.Prelude.{slice_get, slice_set, reverse, replicate, map, nat_lt, cond, ◌==◌}
use Rattle.std.proofs.lemmas.Bool.{lt-ltb, le-ltb}
use Rattle.std.proofs.lemmas.List.{length-set, map-append, length-map, length-reverse}
use Rattle.wasm_types.specs.declared.instr.ValType.{ValType}
use Rattle.wasm_types.specs.declared.instr.ValType.TheVariants.{I32}
use Rattle.wasm_types.specs.declared.instr.Instr.{Instr}
use Rattle.wasm_types.specs.declared.instr.Instr.TheVariants.{Block, Loop, If, Else, End}
use Rattle.wasm_types.specs.declared.module.FuncType.{FuncType}
use Rattle.wasm_types.specs.declared.module.Func.{Func}
use Rattle.wasm_types.specs.declared.module.Module.{Module}
use Rattle.wasm_types.specs.Nested.{Code, Nil, Leaf, InBlock, InLoop, IfOnly, IfElse, IsPlain}
use Rattle.wasm_types.specs.Stands.{Closer, ByEnd, ByElse, end_of, Closes, Stands}
use Rattle.wasm_types.specs.Modules.{NestedModule}
use Rattle.code_specs.specs.declared.trap.TrapKind.TheVariants.{Depth}
use Rattle.code_specs.specs.Values.{Value, Split, is_same, is_of, zero_of, bits_of, all_bits, split, split_first, with_top, most_slots}
use Rattle.code_specs.specs.Stores.{Store}
use Rattle.code_specs.specs.Signatures.{Function, function_at, types_of}
use Rattle.code_specs.specs.Effects.{Effect, Continues, ReadsLocal, WritesLocal, Branches, Returns, Calls, Traps, typed, bare, effect_of}
use Rattle.code_specs.specs.Effects as effect
use Rattle.code_specs.specs.Execution.{Answer, Trapped, Spent, Stuck, Outcome, Next, Over, Invoke, on_found, paying, within, after_effect, after_block, loop_outcome, choice, exec, answer_after, function_answer, after_call, invoke}
use Rattle.code_laws.specs.Bare.{bits_of_effect}
use Rattle.code_laws.proofs.Spending.{exec_spends, invoke_spends, loop_again}
use Rattle.machine_steps.specs.declared.frame.Label.{Label}
use Rattle.machine_steps.specs.declared.frame.Frame.{Frame}
use Rattle.machine_steps.specs.Steps.{Step, Go, Stop, where_found, where_split, taking, calling, most_callers, closing, block_label, loop_label, choosing, doing, executing, step_of}
use Rattle.machine_steps.specs.Nesting.{Nests}
use Rattle.machine_steps.specs.Answers.{bits_of_answer}
use Rattle.machine_steps.proofs.Lists.{map_set, map_get, local_at, local_set, new_locals}
use Rattle.machine_steps.proofs.Splits.{taken}
use Rattle.machine_steps.proofs.Effects.{over_low, wide, CallsWithin, calls_within}
use Rattle.machine_steps.proofs.States.{OpenList, OpenBlock, OpenLoop, before_of, rest_of, closer_of, innermost, under, held, low, LabelFits, LabelsFit, Matches, Same, Around, Waiting, CallersFit, leave, resume, answer, StandsFor, Keeps, return_all, over_answer, stuck_ends, Roomy, roomy, low_cons, low_length}
use Rattle.machine_steps.proofs.Branching.{leaves, goes, branches}

-- what a choice needs
data Chosen (vs : List Value) (one other : List Value → Outcome) : Type 0 where
  Missing : choice vs one other ≡ Over Stuck → Chosen vs one other
  There : (v : Value) (below : List Value) → vs ≡ v ∷ below → choice vs one other ≡ cond (v.bits == 0) (other below) (one below) → Chosen vs one other

chosen : (vs : List Value) (one other : List Value → Outcome) → Chosen vs one other
chosen [] one other = Missing refl
chosen (v ∷ below) one other = by_type (is_of I32 v) refl
  where
    picks : List Value → List Value → Outcome
    picks [] below = Over Stuck
    picks (c ∷ none) below = cond (c.bits == 0) (other below) (one below)

    on_pick : Option (Split Value) → Outcome
    on_pick o = on_found o (λ p. picks p.top p.below)

    by_type : (b : Bool) → is_of I32 v ≡ b → Chosen (v ∷ below) one other
    by_type false is = Missing (ap (λ b. on_pick (cond b (with_top v (Some (record { top = []; below = below }))) None)) is)
    by_type true is = There v below refl (ap (λ b. on_pick (cond b (with_top v (Some (record { top = []; below = below }))) None)) is)

module _ (m : NestedModule) (fm : Module) (same : Same m fm) (func base depth : ℕ) (locals : List Value) (ks : List OpenList) (results : List ValType) (labels labels_below : List Label) (below : List ℕ) (cs : List Waiting) (callers : List Frame) (d : ℕ) (r : Answer Value)
    (around : Around fm func base depth (length locals) ks results labels labels_below below) (callers_fit : CallersFit fm cs callers labels_below below) (room : d + length callers ≡ most_callers) (ok : r ≢ Stuck) where
  abbrev next : Code → (locals operands : List Value) → Store → (fuel : ℕ) → Outcome
  next = exec m (invoke m d) (held (length locals) ks)

  abbrev ends : Outcome → Answer Value
  ends o = answer m d cs results (length locals) ks o

  abbrev on_values : List Value → List ℕ
  on_values vs = all_bits vs ++ low ks locals below

  abbrev Here : Code → ℕ → Type 0
  Here code position = Stands around.f.body code position (innermost ks around.fin) × Nests (length ks) code

  stuck : ends (Over Stuck) ≡ r → ⊥
  stuck e = stuck_ends m d cs results (length locals) ks r e ok

  on : (code : Code) (position : ℕ) (vs : List Value) (s : Store) (f : ℕ) → Here code position → ends (next code locals vs s f) ≡ r → Keeps m fm (Go func position base depth (on_values vs) labels callers s f) r
  on code position vs s f h e = goes m fm func base depth locals ks results labels labels_below below cs callers d r around callers_fit room ok code position vs s f h.0 h.1 e

  -- a local is read
  reads : (o : Option Value) (rest : Code) (position i : ℕ) (vs : List Value) (s : Store) (f : ℕ) → slice_get locals i ≡ o → Here rest (position + 1) → ends (on_found o (λ v. next rest locals (v ∷ vs) s f)) ≡ r
      → Keeps m fm (doing fm (ReadsLocal i (on_values vs)) func position base depth labels callers s f) r
  reads None rest position i vs s f is h e = absurd (stuck e)
  reads (Some v) rest position i vs s f is h e =
      let at = local_at (all_bits vs) (all_bits (under ks)) (all_bits locals) below base i v.bits around.base_is (map_get bits_of locals i v is) in
      subst (λ o. Keeps m fm (where_found o (λ n. Go func (position + 1) base depth (n ∷ on_values vs) labels callers s f)) r) (sym at) (on rest (position + 1) (v ∷ vs) s f h e)

  -- a local is written
  writes_typed : (old : Value) (b : Bool) (rest : Code) (position i : ℕ) (v : Value) (vs : List Value) (s : Store) (f : ℕ) → slice_get locals i ≡ Some old → Here rest (position + 1) → ends (cond b (next rest (slice_set locals i v) vs s f) (Over Stuck)) ≡ r
      → Keeps m fm (doing fm (WritesLocal i v.bits (on_values vs)) func position base depth labels callers s f) r
  writes_typed old false rest position i v vs s f is h e = absurd (stuck e)
  writes_typed old true rest position i v vs s f is h e =
      let values = on_values vs in
      let at = local_at (all_bits vs) (all_bits (under ks)) (all_bits locals) below base i old.bits around.base_is (map_get bits_of locals i old is) in
      let new = slice_set locals i v in
      let wrote = local_set (all_bits vs) (all_bits (under ks)) (all_bits locals) below base i v.bits old.bits around.base_is (map_get bits_of locals i old is)
      ∙ ap (λ l. all_bits vs ++ (all_bits (under ks) ++ (reverse l ++ below))) (sym (map_set bits_of locals i v)) in
      let len : length locals ≡ length new = sym (length-set locals i v) in
      let around' : Around fm func base depth (length new) ks results labels labels_below below =
      record { f = around.f; has = around.has; ty = around.ty; typed = around.typed; results_are = around.results_are; fin = around.fin; mine = around.mine; fits = subst (λ n. LabelsFit around.f.body around.fin (base + n) ks around.mine) len around.fits; labels_are = around.labels_are; depth_is = around.depth_is; base_is = around.base_is } in
      let e' = subst (λ n. answer m d cs results n ks (exec m (invoke m d) (held n ks) rest new vs s f) ≡ r) len e in
      let g = goes m fm func base depth new ks results labels labels_below below cs callers d r around' callers_fit room ok rest (position + 1) vs s f h.0 h.1 e' in
      subst (λ o. Keeps m fm (where_found o (λ old. Go func (position + 1) base depth (reverse (slice_set (reverse values) (base + i) v.bits)) labels callers s f)) r) (sym at)
      (subst (λ l. Keeps m fm (Go func (position + 1) base depth l labels callers s f) r) (sym wrote) g)

  writes : (o : Option Value) (rest : Code) (position i : ℕ) (v : Value) (vs : List Value) (s : Store) (f : ℕ) → slice_get locals i ≡ o → Here rest (position + 1)
      → ends (on_found o (λ old. cond (is_same old.ty v.ty) (next rest (slice_set locals i v) vs s f) (Over Stuck))) ≡ r
      → Keeps m fm (doing fm (WritesLocal i v.bits (on_values vs)) func position base depth labels callers s f) r
  writes None rest position i v vs s f is h e = absurd (stuck e)
  writes (Some old) rest position i v vs s f is h e = writes_typed old (is_same old.ty v.ty) rest position i v vs s f is h e

  -- a function is entered
  abbrev waits : ℕ → Frame
  waits position = record { func = func; position = position + 1; base = base; depth = depth }

  entered : (d' : ℕ) → d ≡ suc d' → (fn : Function) (g : Func) (rest : Code) (position i : ℕ) (vs : List Value) (s : Store) (f : ℕ) (p : Split Value) → slice_get fm.funcs i ≡ Some g → Matches fm fn g → split (reverse fn.ty.params) vs ≡ Some p → Here rest (position + 1) → held (length locals) ks + length vs ≤ most_slots
      → answer m (suc d') cs results (length locals) ks (after_call p.below (exec m (invoke m (suc d')) (held (length locals) ks) rest locals) (function_answer m (invoke m d') fn p.top s f)) ≡ r
      → Keeps m fm (Go i 0 (length (on_values p.below)) 0 (replicate (length g.locals) 0 ++ on_values vs) labels (waits position ∷ callers) s f) r
  entered d' ed fn g rest position i vs s f p has mt is h le e =
      let low' = low ks locals below in
      let new = reverse p.top ++ map zero_of fn.locals in
      let t = taken (reverse fn.ty.params) vs p is in
      let values_are : replicate (length g.locals) 0 ++ (all_bits vs ++ low') ≡ reverse (all_bits new) ++ (all_bits p.below ++ low') =
      ap (λ (ts : List ValType). replicate (length ts) 0 ++ (all_bits vs ++ low')) mt.locals
      ∙ ap (λ o. replicate (length fn.locals) 0 ++ (o ++ low')) (ap all_bits t.whole ∙ map-append bits_of p.top p.below)
      ∙ ap (λ l. replicate (length fn.locals) 0 ++ l) (append_assoc (all_bits p.top) (all_bits p.below) low')
      ∙ sym (append_assoc (replicate (length fn.locals) 0) (all_bits p.top) (all_bits p.below ++ low'))
      ∙ ap (λ xs. xs ++ (all_bits p.below ++ low')) (sym (new_locals p.top fn.locals)) in
      let le' : held (length locals) ks + length p.below ≤ most_slots = omega (arith, le, ap length t.whole, length-append p.top p.below) in
      record {
        code = fn.code;
        locals = new;
        operands = [];
        ks = [];
        results = reverse fn.ty.results;
        labels_below = labels;
        below = all_bits p.below ++ low';
        cs = record { rest = rest; locals = locals; operands = p.below; ks = ks; results = results } ∷ cs;
        d = d';
        frame = record {
          around = record { f = g; has = has; ty = fn.ty; typed = mt.typed; results_are = refl; fin = mt.fin; mine = []; fits = tt; labels_are = refl; depth_is = refl; base_is = refl };
          stands = mt.stands;
          nests = mt.nests;
          values_are = values_are;
        };
        callers_fit = (labels_below, below, record { around = around; stands = h.0; nests = h.1; values_are = refl }, le', callers_fit);
        room = omega (arith, ed, room);
        answer_is = e;
      }

  abbrev opens_frame : ℕ → ℕ → List Value → Store → ℕ → Func → FuncType → Step
  opens_frame i position vs s f g t =
      where_split (split_first (length t.params) (on_values vs)) (λ top low. Go i 0 (length low) 0 (replicate (length g.locals) 0 ++ on_values vs) labels (waits position ∷ callers) s f)

  abbrev calls_if : ℕ → ℕ → List Value → Store → ℕ → Bool → Step
  calls_if i position vs s f b =
      cond b (where_found (slice_get fm.funcs i) (λ (g : Func). where_found (slice_get fm.types g.ty) (λ t. opens_frame i position vs s f g t))) (Stop (Trapped Depth s f))

  enters_split : (d' : ℕ) → d ≡ suc d' → (fn : Function) (o : Option (Split Value)) (rest : Code) (position i : ℕ) (vs : List Value) (s : Store) (f : ℕ) → function_at m i ≡ Some fn → split (reverse fn.ty.params) vs ≡ o → Here rest (position + 1) → held (length locals) ks + length vs ≤ most_slots
      → answer m (suc d') cs results (length locals) ks (on_found o (λ p. after_call p.below (exec m (invoke m (suc d')) (held (length locals) ks) rest locals) (function_answer m (invoke m d') fn p.top s f))) ≡ r
      → Keeps m fm (calling fm i func position base depth (on_values vs) labels callers s f) r
  enters_split d' ed fn None rest position i vs s f has is h le e = absurd (stuck_ends m (suc d') cs results (length locals) ks r e ok)
  enters_split d' ed fn (Some p) rest position i vs s f has is h le e =
      let x = same.each i fn has in
      let test : nat_lt (length callers) most_callers ≡ true = lt-ltb (length callers) most_callers (omega (arith, room, ed)) in
      let first = ap (λ n. split_first n (on_values vs)) (sym (length-reverse fn.ty.params)) ∙ (taken (reverse fn.ty.params) vs p is).over (low ks locals below) in
      let step =
      ap (calls_if i position vs s f) test
      ∙ ap (λ o. where_found o (λ (g : Func). where_found (slice_get fm.types g.ty) (λ t. opens_frame i position vs s f g t))) x.1
      ∙ ap (λ o. where_found o (λ t. opens_frame i position vs s f x.0 t)) x.2.typed
      ∙ ap (λ o. where_split o (λ top low. Go i 0 (length low) 0 (replicate (length x.0.locals) 0 ++ on_values vs) labels (waits position ∷ callers) s f)) first in
      subst (λ st. Keeps m fm st r) (sym step) (entered d' ed fn x.0 rest position i vs s f p x.1 x.2 is h le e)

  enters : (d' : ℕ) → d ≡ suc d' → (of : Option Function) (rest : Code) (position i : ℕ) (vs : List Value) (s : Store) (f : ℕ) → function_at m i ≡ of → Here rest (position + 1) → held (length locals) ks + length vs ≤ most_slots
      → answer m (suc d') cs results (length locals) ks (on_found of (λ fn. on_found (split (reverse fn.ty.params) vs) (λ p. after_call p.below (exec m (invoke m (suc d')) (held (length locals) ks) rest locals) (function_answer m (invoke m d') fn p.top s f)))) ≡ r
      → Keeps m fm (calling fm i func position base depth (on_values vs) labels callers s f) r
  enters d' ed None rest position i vs s f is h le e = absurd (stuck_ends m (suc d') cs results (length locals) ks r e ok)
  enters d' ed (Some fn) rest position i vs s f is h le e = enters_split d' ed fn (split (reverse fn.ty.params) vs) rest position i vs s f is refl h le e

  called : (dd : ℕ) → d ≡ dd → (rest : Code) (position i : ℕ) (vs : List Value) (s : Store) (f : ℕ) → Here rest (position + 1) → held (length locals) ks + length vs ≤ most_slots
      → answer m dd cs results (length locals) ks (invoke m dd i vs s f (exec m (invoke m dd) (held (length locals) ks) rest locals)) ≡ r
      → Keeps m fm (calling fm i func position base depth (on_values vs) labels callers s f) r
  unfolding invoke
  called zero ed rest position i vs s f h le e =
      let test : nat_lt (length callers) most_callers ≡ false = le-ltb (length callers) most_callers (omega (arith, ed, room)) in
      subst (λ st. Keeps m fm st r) (sym (ap (calls_if i position vs s f) test)) (ap bits_of_answer (sym (over_answer m 0 cs results (length locals) ks (Trapped Depth s f) tt) ∙ e))
  called (suc d') ed rest position i vs s f h le e = enters d' ed (function_at m i) rest position i vs s f refl h le e

  -- an instruction that holds no list
  does : (x : Effect Value) (rest : Code) (position : ℕ) (n : ℕ) (s : Store) (f : ℕ) → Here rest (position + 1) → CallsWithin n x → held (length locals) ks + n ≤ most_slots → ends (after_effect (invoke m d) (next rest) x locals s f) ≡ r
      → Keeps m fm (doing fm (over_low (low ks locals below) (bits_of_effect x)) func position base depth labels callers s f) r
  does (Continues vs store) rest position n s f h le room_is e = on rest (position + 1) vs store f h e
  does (ReadsLocal i vs) rest position n s f h le room_is e = reads (slice_get locals i) rest position i vs s f refl h e
  does (WritesLocal i v vs) rest position n s f h le room_is e = writes (slice_get locals i) rest position i v vs s f refl h e
  does (Branches label vs) rest position n s f h le room_is e =
      branches m fm func base depth locals ks results labels labels_below below cs callers d r around callers_fit room ok label vs s f e
  does (Returns vs) rest position n s f h le room_is e =
      leaves m fm func base depth locals ks results labels labels_below below cs callers d r around callers_fit room ok vs s f
      (sym (ap (λ o. resume m d cs (answer_after results o)) (return_all m (invoke m d) (length locals) ks vs s f)) ∙ e)
  does (Calls i vs) rest position n s f h le room_is e = called d refl rest position i vs s f h (omega (arith, le, room_is)) e
  does (Traps kind) rest position n s f h le room_is e = ap bits_of_answer (sym (over_answer m d cs results (length locals) ks (Trapped kind s f) tt) ∙ e)
  does effect.Stuck rest position n s f h le room_is e = absurd (stuck e)

  -- no unit is left
  no_unit : (s : Store) → ends (Over (Spent s)) ≡ r → Spent s ≡ bits_of_answer r
  no_unit s e = ap bits_of_answer (sym (over_answer m d cs results (length locals) ks (Spent s) tt) ∙ e)

  leaf_kept : (i : Instr) (rest : Code) (position : ℕ) (vs : List Value) (s : Store) (f : ℕ) → Here rest (position + 1) → held (length locals) ks + length vs ≤ most_slots
      → ends (paying s f (λ f. after_effect (invoke m d) (next rest) (effect_of typed m i vs s) locals s f)) ≡ r
      → Keeps m fm (taking s f (λ f. doing fm (effect_of bare m i (on_values vs) s) func position base depth labels callers s f)) r
  leaf_kept i rest position vs s zero h le e = no_unit s e
  leaf_kept i rest position vs s (suc f) h le e =
      let fine : effect_of typed m i vs s ≢ effect.Stuck = λ is. stuck (sym (ap (λ x. ends (after_effect (invoke m d) (next rest) x locals s f)) is) ∙ e) in
      subst (λ x. Keeps m fm (doing fm x func position base depth labels callers s f) r) (sym (wide m i vs s (low ks locals below) fine))
      (does (effect_of typed m i vs s) rest position (length vs) s f h (calls_within (length vs) m i vs s (omega arith)) le e)

  -- a list is entered
  opens : (k : OpenList) (label : Label) (code : Code) (position : ℕ) (s : Store) (f : ℕ) → LabelFits around.f.body around.fin (base + length locals) k ks label → Stands around.f.body code position (closer_of k) → Nests (suc (length ks)) code
      → answer m d cs results (length locals) (k ∷ ks) (exec m (invoke m d) (held (length locals) (k ∷ ks)) code locals [] s f) ≡ r
      → Keeps m fm (Go func position base (depth + 1) (on_values (before_of k)) (label ∷ labels) callers s f) r
  opens k label code position s f one st ne e =
      let around' : Around fm func base (depth + 1) (length locals) (k ∷ ks) results (label ∷ labels) labels_below below =
      record { f = around.f; has = around.has; ty = around.ty; typed = around.typed; results_are = around.results_are; fin = around.fin; mine = label ∷ around.mine; fits = (one, around.fits); labels_are = ap (λ ls. label ∷ ls) around.labels_are; depth_is = omega (arith, around.depth_is); base_is = around.base_is } in
      let g = goes m fm func base (depth + 1) locals (k ∷ ks) results (label ∷ labels) labels_below below cs callers d r around' callers_fit room ok code position [] s f st ne e in
      subst (λ l. Keeps m fm (Go func position base (depth + 1) l (label ∷ labels) callers s f) r) (low_cons k ks locals below) g

  height_is : (vs : List Value) → length (on_values vs) ≡ length (vs ++ under ks) + (base + length locals)
  height_is vs = omega (arith, length-append (all_bits vs) (low ks locals below), low_length ks locals below, length-map vs bits_of, length-append vs (under ks), around.base_is)

  block_opens : (res : Option ValType) (closer : Closer) (rest inner : Code) (position e : ℕ) (vs : List Value) (s : Store) (f : ℕ) → end_of closer ≡ e → Stands around.f.body inner position closer → Here rest (e + 1) → length ks < 1024 → Nests (suc (length ks)) inner
      → ends (after_block (types_of res) vs (next rest) (exec m (invoke m d) (held (length locals) ks + length vs) inner locals [] s f)) ≡ r
      → Keeps m fm (Go func position base (depth + 1) (on_values vs) (block_label e (length (on_values vs)) res ∷ labels) callers s f) r
  block_opens res closer rest inner position e vs s f at st h deep ne ans =
      opens (OpenBlock res closer vs rest) (block_label e (length (on_values vs)) res) inner position s f
      (record { height = height_is vs; leads = (refl, ap (λ n. n + 1) (sym at), refl); rest = subst (λ n. Stands around.f.body rest (n + 1) (innermost ks around.fin)) (sym at) h.0; deep = deep; rest_nests = h.1; inner_nests = tt })
      st ne ans

  block_kept : (res : Option ValType) (inner rest : Code) (position e : ℕ) (vs : List Value) (s : Store) (f : ℕ) → Stands around.f.body inner (position + 1) (ByEnd e) → Stands around.f.body rest (e + 1) (innermost ks around.fin) → Nests (length ks) (InBlock res inner rest)
      → ends (paying s f (λ f. after_block (types_of res) vs (next rest) (exec m (invoke m d) (held (length locals) ks + length vs) inner locals [] s f))) ≡ r
      → Keeps m fm (executing m fm (Some (Block res e)) func position base depth (on_values vs) labels callers s f) r
  block_kept res inner rest position e vs s zero st_inner st_rest ne ans = no_unit s ans
  block_kept res inner rest position e vs s (suc f) st_inner st_rest ne ans =
      block_opens res (ByEnd e) rest inner (position + 1) e vs s f refl st_inner (st_rest, ne.2) ne.0 ne.1 ans

  loop_kept : (res : Option ValType) (inner rest : Code) (position e : ℕ) (vs : List Value) (s : Store) (f : ℕ) → Stands around.f.body inner (position + 1) (ByEnd e) → Stands around.f.body rest (e + 1) (innermost ks around.fin) → Nests (length ks) (InLoop res inner rest)
      → ends (paying s f (λ f. after_block [] vs (next rest) (loop_outcome (exec m (invoke m d) (held (length locals) ks + length vs) inner) locals s f))) ≡ r
      → Keeps m fm (executing m fm (Some (Loop res e)) func position base depth (on_values vs) labels callers s f) r
  loop_kept res inner rest position e vs s zero st_inner st_rest ne ans = no_unit s ans
  loop_kept res inner rest position e vs s (suc f) st_inner st_rest ne ans =
      let h = held (length locals) ks in
      let body = exec m (invoke m d) (h + length vs) inner in
      let turn = loop_again body (exec_spends m (invoke m d) (invoke_spends m d) (h + length vs) inner) locals s f in
      let ans' = sym (ap (λ o. ends (after_block [] vs (next rest) o)) turn) ∙ ans in
      opens (OpenLoop (ByEnd e) inner vs rest) (loop_label (position + 1) (length (on_values vs))) inner (position + 1) s f
      (record { height = height_is vs; leads = (refl, refl, st_inner); rest = st_rest; deep = ne.0; rest_nests = ne.2; inner_nests = ne.1 })
      st_inner ne.1 ans'

  -- the two sides of an if
  one_side : Option ValType → Code → Code → Store → ℕ → List Value → Outcome
  one_side res inner rest s f vs = after_block (types_of res) vs (next rest) (exec m (invoke m d) (held (length locals) ks + length vs) inner locals [] s f)

  if_by : (b : Bool) (c : ℕ) (res : Option ValType) (inner rest : Code) (position e : ℕ) (vs : List Value) (s : Store) (f : ℕ) → c == 0 ≡ b → Stands around.f.body inner (position + 1) (ByEnd e) → Stands around.f.body rest (e + 1) (innermost ks around.fin) → Nests (length ks) (IfOnly res inner rest)
      → ends (cond b (next rest locals vs s f) (after_block (types_of res) vs (next rest) (exec m (invoke m d) (held (length locals) ks + length vs) inner locals [] s f))) ≡ r
      → Keeps m fm (cond b (Go func (e + 1) base depth (on_values vs) labels callers s f) (Go func (position + 1) base (depth + 1) (on_values vs) (block_label e (length (on_values vs)) res ∷ labels) callers s f)) r
  if_by true c res inner rest position e vs s f is st_inner st_rest ne ans = on rest (e + 1) vs s f (st_rest, ne.2) ans
  if_by false c res inner rest position e vs s f is st_inner st_rest ne ans =
      block_opens res (ByEnd e) rest inner (position + 1) e vs s f refl st_inner (st_rest, ne.2) ne.0 ne.1 ans

  if_chosen : (res : Option ValType) (inner rest : Code) (position e : ℕ) (vs : List Value) (s : Store) (f : ℕ) → Stands around.f.body inner (position + 1) (ByEnd e) → Stands around.f.body rest (e + 1) (innermost ks around.fin) → Nests (length ks) (IfOnly res inner rest)
      → Chosen vs (λ vs. after_block (types_of res) vs (next rest) (exec m (invoke m d) (held (length locals) ks + length vs) inner locals [] s f)) (λ vs. next rest locals vs s f)
      → ends (choice vs (λ vs. after_block (types_of res) vs (next rest) (exec m (invoke m d) (held (length locals) ks + length vs) inner locals [] s f)) (λ vs. next rest locals vs s f)) ≡ r
      → Keeps m fm (choosing res None e func position base depth (on_values vs) labels callers s f) r
  if_chosen res inner rest position e vs s f st_inner st_rest ne (Missing is) ans = absurd (stuck (ap ends (sym is) ∙ ans))
  if_chosen res inner rest position e vs s f st_inner st_rest ne (There v rest_vs whole is) ans =
      subst (λ l. Keeps m fm (choosing res None e func position base depth (on_values l) labels callers s f) r) (sym whole)
      (if_by (v.bits == 0) v.bits res inner rest position e rest_vs s f refl st_inner st_rest ne (ap ends (sym is) ∙ ans))

  if_kept : (res : Option ValType) (inner rest : Code) (position e : ℕ) (vs : List Value) (s : Store) (f : ℕ) → Stands around.f.body inner (position + 1) (ByEnd e) → Stands around.f.body rest (e + 1) (innermost ks around.fin) → Nests (length ks) (IfOnly res inner rest)
      → ends (paying s f (λ f. choice vs (λ vs. after_block (types_of res) vs (next rest) (exec m (invoke m d) (held (length locals) ks + length vs) inner locals [] s f)) (λ vs. next rest locals vs s f))) ≡ r
      → Keeps m fm (executing m fm (Some (If res None e)) func position base depth (on_values vs) labels callers s f) r
  if_kept res inner rest position e vs s zero st_inner st_rest ne ans = no_unit s ans
  if_kept res inner rest position e vs s (suc f) st_inner st_rest ne ans =
      if_chosen res inner rest position e vs s f st_inner st_rest ne (chosen vs (λ vs. after_block (types_of res) vs (next rest) (exec m (invoke m d) (held (length locals) ks + length vs) inner locals [] s f)) (λ vs. next rest locals vs s f)) ans

  else_by : (b : Bool) (res : Option ValType) (first second rest : Code) (position q e : ℕ) (vs : List Value) (s : Store) (f : ℕ) → Stands around.f.body first (position + 1) (ByElse q e) → Stands around.f.body second (q + 1) (ByEnd e) → Stands around.f.body rest (e + 1) (innermost ks around.fin) → Nests (length ks) (IfElse res first second rest)
      → ends (cond b (after_block (types_of res) vs (next rest) (exec m (invoke m d) (held (length locals) ks + length vs) second locals [] s f)) (after_block (types_of res) vs (next rest) (exec m (invoke m d) (held (length locals) ks + length vs) first locals [] s f))) ≡ r
      → Keeps m fm (cond b (Go func (q + 1) base (depth + 1) (on_values vs) (block_label e (length (on_values vs)) res ∷ labels) callers s f) (Go func (position + 1) base (depth + 1) (on_values vs) (block_label e (length (on_values vs)) res ∷ labels) callers s f)) r
  else_by true res first second rest position q e vs s f st_first st_second st_rest ne ans =
      block_opens res (ByEnd e) rest second (q + 1) e vs s f refl st_second (st_rest, ne.3) ne.0 ne.2 ans
  else_by false res first second rest position q e vs s f st_first st_second st_rest ne ans =
      block_opens res (ByElse q e) rest first (position + 1) e vs s f refl st_first (st_rest, ne.3) ne.0 ne.1 ans

  else_chosen : (res : Option ValType) (first second rest : Code) (position q e : ℕ) (vs : List Value) (s : Store) (f : ℕ) → Stands around.f.body first (position + 1) (ByElse q e) → Stands around.f.body second (q + 1) (ByEnd e) → Stands around.f.body rest (e + 1) (innermost ks around.fin) → Nests (length ks) (IfElse res first second rest)
      → Chosen vs (λ vs. after_block (types_of res) vs (next rest) (exec m (invoke m d) (held (length locals) ks + length vs) first locals [] s f)) (λ vs. after_block (types_of res) vs (next rest) (exec m (invoke m d) (held (length locals) ks + length vs) second locals [] s f))
      → ends (choice vs (λ vs. after_block (types_of res) vs (next rest) (exec m (invoke m d) (held (length locals) ks + length vs) first locals [] s f)) (λ vs. after_block (types_of res) vs (next rest) (exec m (invoke m d) (held (length locals) ks + length vs) second locals [] s f))) ≡ r
      → Keeps m fm (choosing res (Some q) e func position base depth (on_values vs) labels callers s f) r
  else_chosen res first second rest position q e vs s f st_first st_second st_rest ne (Missing is) ans = absurd (stuck (ap ends (sym is) ∙ ans))
  else_chosen res first second rest position q e vs s f st_first st_second st_rest ne (There v rest_vs whole is) ans =
      subst (λ l. Keeps m fm (choosing res (Some q) e func position base depth (on_values l) labels callers s f) r) (sym whole)
      (else_by (v.bits == 0) res first second rest position q e rest_vs s f st_first st_second st_rest ne (ap ends (sym is) ∙ ans))

  else_kept : (res : Option ValType) (first second rest : Code) (position q e : ℕ) (vs : List Value) (s : Store) (f : ℕ) → Stands around.f.body first (position + 1) (ByElse q e) → Stands around.f.body second (q + 1) (ByEnd e) → Stands around.f.body rest (e + 1) (innermost ks around.fin) → Nests (length ks) (IfElse res first second rest)
      → ends (paying s f (λ f. choice vs (λ vs. after_block (types_of res) vs (next rest) (exec m (invoke m d) (held (length locals) ks + length vs) first locals [] s f)) (λ vs. after_block (types_of res) vs (next rest) (exec m (invoke m d) (held (length locals) ks + length vs) second locals [] s f)))) ≡ r
      → Keeps m fm (executing m fm (Some (If res (Some q) e)) func position base depth (on_values vs) labels callers s f) r
  else_kept res first second rest position q e vs s zero st_first st_second st_rest ne ans = no_unit s ans
  else_kept res first second rest position q e vs s (suc f) st_first st_second st_rest ne ans =
      else_chosen res first second rest position q e vs s f st_first st_second st_rest ne (chosen vs (λ vs. after_block (types_of res) vs (next rest) (exec m (invoke m d) (held (length locals) ks + length vs) first locals [] s f)) (λ vs. after_block (types_of res) vs (next rest) (exec m (invoke m d) (held (length locals) ks + length vs) second locals [] s f))) ans

leave_next : (m : NestedModule) (call : Invoke) (h : ℕ) (k : OpenList) (l vs : List Value) (s : Store) (f : ℕ) → leave m call h k (Next l vs s f) ≡ exec m call h (rest_of k) l (vs ++ before_of k) s f
leave_next m call h (OpenBlock r closer before rest) l vs s f = refl
leave_next m call h (OpenLoop closer inner before rest) l vs s f = refl

-- a list closes
module _ (m : NestedModule) (fm : Module) (func base : ℕ) (locals : List Value) (results : List ValType) (labels labels_below : List Label) (below : List ℕ) (cs : List Waiting) (callers : List Frame) (d : ℕ) (r : Answer Value)
    (g : Func) (has : slice_get fm.funcs func ≡ Some g) (ty : FuncType) (is_typed : slice_get fm.types g.ty ≡ Some ty) (results_are : reverse ty.results ≡ results) (fin : ℕ) (base_is : base ≡ length below) (callers_fit : CallersFit fm cs callers labels_below below) (room : d + length callers ≡ most_callers) (ok : r ≢ Stuck) where
  closes : (depth : ℕ) (ks : List OpenList) (mine : List Label) (to : ℕ) (vs : List Value) (s : Store) (f : ℕ) → LabelsFit g.body fin (base + length locals) ks mine → labels ≡ mine ++ labels_below → depth ≡ length mine → to ≡ end_of (innermost ks fin) + 1 → answer m d cs results (length locals) ks (Next locals vs s f) ≡ r
      → Keeps m fm (closing fm func to base depth (all_bits vs ++ low ks locals below) labels callers s f) r
  closes zero [] [] to vs s f fits ls ed et e =
      leaves m fm func base 0 locals [] results labels labels_below below cs callers d r (record { f = g; has = has; ty = ty; typed = is_typed; results_are = results_are; fin = fin; mine = []; fits = tt; labels_are = ls; depth_is = refl; base_is = base_is }) callers_fit room ok vs s f e
  closes (suc depth) [] [] to vs s f fits ls ed et e = absurd (omega arith)
  closes depth [] (l ∷ mine) to vs s f fits ls ed et e = absurd fits
  closes depth (k ∷ ks) [] to vs s f fits ls ed et e = absurd fits
  closes zero (k ∷ ks) (l ∷ mine) to vs s f fits ls ed et e = absurd (omega arith)
  closes (suc depth) (k ∷ ks) (l ∷ mine) to vs s f fits ls ed et e =
      let n = length locals in
      let around : Around fm func base depth n ks results (drop 1 labels) labels_below below =
      record { f = g; has = has; ty = ty; typed = is_typed; results_are = results_are; fin = fin; mine = mine; fits = fits.1; labels_are = ap (drop 1) ls; depth_is = omega (arith, ed); base_is = base_is } in
      let e' = sym (ap (λ o. answer m d cs results n ks o) (leave_next m (invoke m d) (held n ks) k locals vs s f)) ∙ e in
      let x = goes m fm func base depth locals ks results (drop 1 labels) labels_below below cs callers d r around callers_fit room ok (rest_of k) to (vs ++ before_of k) s f (subst (λ n. Stands g.body (rest_of k) n (innermost ks fin)) (sym et) fits.0.rest) fits.0.rest_nests e' in
      let values_are = ap (λ l. l ++ low ks locals below) (map-append bits_of vs (before_of k)) ∙ append_assoc (all_bits vs) (all_bits (before_of k)) (low ks locals below) ∙ ap (λ l. all_bits vs ++ l) (sym (low_cons k ks locals below)) in
      subst (λ l. Keeps m fm (Go func to base depth l (drop 1 labels) callers s f) r) values_are x

  closed : (depth : ℕ) (ks : List OpenList) (mine : List Label) (closer : Closer) (position : ℕ) (vs : List Value) (s : Store) (f : ℕ) → LabelsFit g.body fin (base + length locals) ks mine → labels ≡ mine ++ labels_below → depth ≡ length mine → innermost ks fin ≡ closer → Closes g.body position closer → answer m d cs results (length locals) ks (Next locals vs s f) ≡ r
      → Keeps m fm (executing m fm (slice_get g.body position) func position base depth (all_bits vs ++ low ks locals below) labels callers s f) r
  closed depth ks mine (ByEnd e) position vs s f fits ls ed ec c ans =
      subst (λ o. Keeps m fm (executing m fm o func position base depth (all_bits vs ++ low ks locals below) labels callers s f) r) (sym c.there)
      (closes depth ks mine (position + 1) vs s f fits ls ed (ap (λ n. n + 1) (c.here ∙ ap end_of (sym ec))) ans)
  closed depth ks mine (ByElse q e) position vs s f fits ls ed ec c ans =
      subst (λ o. Keeps m fm (executing m fm o func position base depth (all_bits vs ++ low ks locals below) labels callers s f) r) (sym c.there)
      (closes depth ks mine (e + 1) vs s f fits ls ed (ap (λ n. n + 1) (ap end_of (sym ec))) ans)

plain_executes : (m : NestedModule) (fm : Module) (i : Instr) (func position base depth : ℕ) (values : List ℕ) (labels : List Label) (callers : List Frame) (s : Store) (f : ℕ) → IsPlain i
    → executing m fm (Some i) func position base depth values labels callers s f ≡ taking s f (λ f. doing fm (effect_of bare m i values s) func position base depth labels callers s f)
plain_executes m fm (Block r e) func position base depth values labels callers s f h = absurd h
plain_executes m fm (Loop r e) func position base depth values labels callers s f h = absurd h
plain_executes m fm (If r q e) func position base depth values labels callers s f h = absurd h
plain_executes m fm (Else e) func position base depth values labels callers s f h = absurd h
plain_executes m fm End func position base depth values labels callers s f h = absurd h
plain_executes m fm i func position base depth values labels callers s f h = refl

-- each list
module _ (m : NestedModule) (fm : Module) (same : Same m fm) (func base depth : ℕ) (locals : List Value) (ks : List OpenList) (results : List ValType) (labels labels_below : List Label) (below : List ℕ) (cs : List Waiting) (callers : List Frame) (d : ℕ) (r : Answer Value)
    (around : Around fm func base depth (length locals) ks results labels labels_below below) (callers_fit : CallersFit fm cs callers labels_below below) (room : d + length callers ≡ most_callers) (ok : r ≢ Stuck) where
  found : (i : Instr) (position : ℕ) (vs : List Value) (s : Store) (f : ℕ) → slice_get around.f.body position ≡ Some i → Keeps m fm (executing m fm (Some i) func position base depth (all_bits vs ++ low ks locals below) labels callers s f) r
      → Keeps m fm (executing m fm (slice_get around.f.body position) func position base depth (all_bits vs ++ low ks locals below) labels callers s f) r
  found i position vs s f at k = subst (λ o. Keeps m fm (executing m fm o func position base depth (all_bits vs ++ low ks locals below) labels callers s f) r) (sym at) k

  -- the answer past the test for room
  past_test : (vs : List Value) (o : Outcome) → answer m d cs results (length locals) ks (within (held (length locals) ks) vs o) ≡ r → Roomy m d cs results (length locals) ks (held (length locals) ks + length vs) o r
  past_test vs o e = roomy m d cs results (length locals) ks (held (length locals) ks) vs o r ok e

  executes : (code : Code) (position : ℕ) (vs : List Value) (s : Store) (f : ℕ) → Stands around.f.body code position (innermost ks around.fin) → Nests (length ks) code → answer m d cs results (length locals) ks (exec m (invoke m d) (held (length locals) ks) code locals vs s f) ≡ r
      → Keeps m fm (executing m fm (slice_get around.f.body position) func position base depth (all_bits vs ++ low ks locals below) labels callers s f) r
  executes Nil position vs s f st ne e =
      closed m fm func base locals results labels labels_below below cs callers d r around.f around.has around.ty around.typed around.results_are around.fin around.base_is callers_fit room ok depth ks around.mine (innermost ks around.fin) position vs s f around.fits around.labels_are around.depth_is refl st (past_test vs (Next locals vs s f) e).is
  executes (Leaf i rest) position vs s f st ne e =
      let h = held (length locals) ks in
      let t = past_test vs (paying s f (λ f. after_effect (invoke m d) (exec m (invoke m d) h rest) (effect_of typed m i vs s) locals s f)) e in
      found i position vs s f st.0 (subst (λ st. Keeps m fm st r) (sym (plain_executes m fm i func position base depth (all_bits vs ++ low ks locals below) labels callers s f st.1)) (leaf_kept m fm same func base depth locals ks results labels labels_below below cs callers d r around callers_fit room ok i rest position vs s f (st.2, ne) t.room t.is))
  executes (InBlock res inner rest) position vs s f st ne e =
      let h = held (length locals) ks in
      let t = past_test vs (paying s f (λ f. after_block (types_of res) vs (exec m (invoke m d) h rest) (exec m (invoke m d) (h + length vs) inner locals [] s f))) e in
      found (Block res st.0) position vs s f st.1 (block_kept m fm same func base depth locals ks results labels labels_below below cs callers d r around callers_fit room ok res inner rest position st.0 vs s f st.2 st.3 ne t.is)
  executes (InLoop res inner rest) position vs s f st ne e =
      let h = held (length locals) ks in
      let t = past_test vs (paying s f (λ f. after_block [] vs (exec m (invoke m d) h rest) (loop_outcome (exec m (invoke m d) (h + length vs) inner) locals s f))) e in
      found (Loop res st.0) position vs s f st.1 (loop_kept m fm same func base depth locals ks results labels labels_below below cs callers d r around callers_fit room ok res inner rest position st.0 vs s f st.2 st.3 ne t.is)
  executes (IfOnly res inner rest) position vs s f st ne e =
      let h = held (length locals) ks in
      let t = past_test vs (paying s f (λ f. choice vs (λ vs. after_block (types_of res) vs (exec m (invoke m d) h rest) (exec m (invoke m d) (h + length vs) inner locals [] s f)) (λ vs. exec m (invoke m d) h rest locals vs s f))) e in
      found (If res None st.0) position vs s f st.1 (if_kept m fm same func base depth locals ks results labels labels_below below cs callers d r around callers_fit room ok res inner rest position st.0 vs s f st.2 st.3 ne t.is)
  executes (IfElse res first second rest) position vs s f st ne e =
      let h = held (length locals) ks in
      let t = past_test vs (paying s f (λ f. choice vs (λ vs. after_block (types_of res) vs (exec m (invoke m d) h rest) (exec m (invoke m d) (h + length vs) first locals [] s f)) (λ vs. after_block (types_of res) vs (exec m (invoke m d) h rest) (exec m (invoke m d) (h + length vs) second locals [] s f)))) e in
      found (If res (Some st.0) st.1) position vs s f st.2 (else_kept m fm same func base depth locals ks results labels labels_below below cs callers d r around callers_fit room ok res first second rest position st.0 st.1 vs s f st.3 st.4 st.5 ne t.is)

-- each step keeps the run's answer
pub keeps : (m : NestedModule) (fm : Module) → Same m fm → (func position base depth : ℕ) (values : List ℕ) (labels : List Label) (callers : List Frame) (s : Store) (f : ℕ) (r : Answer Value) → r ≢ Stuck
    → StandsFor m fm func position base depth values labels callers s f r → Keeps m fm (step_of m fm func position base depth values labels callers s f) r
keeps m fm same func position base depth values labels callers s f r ok x =
    let fr = x.frame in
    let a = fr.around in
    let g = executes m fm same func base depth x.locals x.ks x.results labels x.labels_below x.below x.cs callers x.d r a x.callers_fit x.room ok x.code position x.operands s f fr.stands fr.nests x.answer_is in
    let g' = subst (λ v. Keeps m fm (executing m fm (slice_get a.f.body position) func position base depth v labels callers s f) r) (sym fr.values_are) g in
    subst (λ (o : Option Func). Keeps m fm (where_found o (λ (f' : Func). executing m fm (slice_get f'.body position) func position base depth values labels callers s f)) r) (sym a.has) g'
