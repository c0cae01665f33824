-- Each step takes fuel or closes a list or a function, and leaves no fewer bytes than there were.
use Rattle.std.proofs.Common.{ℕ, zero, suc, ◌+◌, ◌*◌, ◌<◌, ◌≤◌, List, [], ◌∷◌, ◌++◌, length, Option, Some, None, arith, length-drop, drop, Bool, true, false, cond}
use Rattle.std.specs.Prelude.{Ok, Err, map, slice_get, slice_set, slice_index_or, reverse, replicate, nat_lt, ◌==◌}
use Rattle.wasm_types.specs.declared.instr.ValType.{ValType}
use Rattle.wasm_types.specs.declared.instr.Instr.{Instr}
use Rattle.wasm_types.specs.declared.instr.Instr.TheVariants as instr
use Rattle.wasm_types.specs.declared.module.FuncType.{FuncType}
use Rattle.wasm_types.specs.declared.module.Func.{Func}
use Rattle.wasm_types.specs.declared.module.Module.{Module}
use Rattle.wasm_types.specs.Modules.{NestedModule}
use Rattle.code_specs.specs.declared.trap.TrapKind.TheVariants as trap
use Rattle.code_specs.specs.Values.{Split, split_first}
use Rattle.code_specs.specs.Stores.{Store}
use Rattle.code_specs.specs.Signatures.{Signature, is_same_type, type_of_function, signature_of, types_of}
use Rattle.code_specs.specs.Instances.{table_of}
use Rattle.code_specs.specs.Effects.{Effect, Continues, ReadsLocal, WritesLocal, Branches, Returns, Calls, Traps, Meaning, bare, on_split, on_one, on_i32, after_meaning, plain_effect, meaning_of, branch_if, selection, checked_call, indirect_call, effect_of}
use Rattle.code_specs.specs.Effects as effect
use Rattle.code_specs.specs.Execution.{Answer, Returned, Trapped, Spent, Stuck}
use Rattle.code_laws.specs.Kept.{HasBytes}
use Rattle.code_laws.proofs.Kept.{KeepsMeaning}
use Rattle.code_laws.proofs.Growth.{bytes_kept}
use Rattle.machine_steps.specs.declared.frame.Label.{Label}
use Rattle.machine_steps.specs.declared.frame.Frame.{Frame}
use Rattle.machine_steps.specs.Steps.{Step, Go, Stop, where_found, where_split, with_function, back, returning, most_callers, calling, closed_by, landing, branching, closing, block_label, other_list, choosing, doing, executing, step_of}

-- the call leaves so many bytes at least
abbrev pub AtLeast : ℕ → Answer ℕ → Type 0
AtLeast k (Returned vs s f) = HasBytes k s
AtLeast k (Trapped kind s f) = HasBytes k s
AtLeast k (Spent s) = HasBytes k s
AtLeast k Stuck = Unit {0}

-- the state measures less than n, and has k bytes at least
abbrev pub Falls : (n k : ℕ) → Step → Type 0
Falls n k (Go func position base depth values labels callers s f) = (2 * f + (length labels + length callers) < n) × HasBytes k s
Falls n k (Stop a) = AtLeast k a

-- ---- instructions

-- where the effect goes on at once, there are so many bytes
abbrev Continued : ℕ → Effect ℕ → Type 0
Continued k (Continues ns s) = HasBytes k s
Continued k d = Unit {0}

module _ (k : ℕ) where
  split_continued : (o : Option (Split ℕ)) (go : List ℕ → List ℕ → Effect ℕ) → ((top below : List ℕ) → Continued k (go top below))
      → Continued k (on_split o go)
  split_continued None go h = tt
  split_continued (Some p) go h = h p.top p.below

  one_continued : (ns : List ℕ) (go : ℕ → List ℕ → Effect ℕ) → ((n : ℕ) (below : List ℕ) → Continued k (go n below))
      → Continued k (on_one ns go)
  one_continued [] go h = tt
  one_continued (n ∷ ns) go h = h n ns

  i32_continued : (ns : List ℕ) (go : ℕ → List ℕ → Effect ℕ) → ((n : ℕ) (below : List ℕ) → Continued k (go n below))
      → Continued k (on_i32 bare ns go)
  i32_continued ns go h = split_continued (split_first 1 ns) (λ top below. on_one top (λ n none. go n below))
      (λ top below. one_continued top (λ n none. go n below) (λ n none. h n below))

  either_continued : (b : Bool) (d e : Effect ℕ) → Continued k d → Continued k e → Continued k (cond b d e)
  either_continued true d e g h = g
  either_continued false d e g h = h

  meaning_continued : (ts : List ValType) (below : List ℕ) (x : Meaning) → KeepsMeaning (HasBytes k) x
      → Continued k (after_meaning bare ts below x)
  meaning_continued ts below (Ok c) h = h
  meaning_continued ts below (Err kind) h = tt

  plain_continued : (m : NestedModule) (i : Instr) (g : Option Signature) (ns : List ℕ) (s : Store) → HasBytes k s
      → Continued k (plain_effect bare m i g ns s)
  plain_continued m i None ns s h = tt
  plain_continued m i (Some g) ns s h =
      split_continued (split_first (length g.takes) ns) (λ top below. after_meaning bare g.gives below
      (meaning_of m i (map (λ n. n) top) s))
      (λ top below. meaning_continued g.gives below (meaning_of m i (map (λ n. n) top) s) (bytes_kept m k i (map (λ n. n) top) s h))

  selection_continued : (n : ℕ) (ns : List ℕ) (s : Store) → HasBytes k s → Continued k (selection bare n ns s)
  selection_continued n [] s h = tt
  selection_continued n (v ∷ []) s h = tt
  selection_continued n (upper ∷ lower ∷ below) s h = h

  checked_continued : (index : ℕ) (asked has : Option FuncType) (below : List ℕ) → Continued k (checked_call index asked has below)
  checked_continued index None None below = tt
  checked_continued index None (Some g) below = tt
  checked_continued index (Some f) None below = tt
  checked_continued index (Some f) (Some g) below = either_continued (is_same_type f g) (Calls index below) (Traps trap.Signature) tt tt

  indirect_continued : (m : NestedModule) (ty : ℕ) (entry : Option (Option ℕ)) (below : List ℕ)
      → Continued k (indirect_call m ty entry below)
  indirect_continued m ty None below = tt
  indirect_continued m ty (Some None) below = tt
  indirect_continued m ty (Some (Some index)) below = checked_continued index (slice_get m.types ty) (type_of_function m index) below

  effect_continued : (m : NestedModule) (i : Instr) (ns : List ℕ) (s : Store) → HasBytes k s → Continued k (effect_of bare m i ns s)
  unfolding effect_of
  effect_continued m instr.Unreachable ns s h = tt
  effect_continued m (instr.Br label) ns s h = tt
  effect_continued m (instr.BrIf label) ns s h = i32_continued ns (λ n below. branch_if n label below s)
      (λ n below. either_continued (n == 0) (Continues below s) (Branches label below) h tt)
  effect_continued m (instr.BrTable labels default) ns s h = i32_continued ns (λ n below. Branches (slice_index_or labels n default) below)
      (λ n below. tt)
  effect_continued m instr.Return ns s h = tt
  effect_continued m (instr.Call index) ns s h = tt
  effect_continued m (instr.CallIndirect ty) ns s h = i32_continued ns (λ n below. indirect_call m ty (slice_get (table_of m) n) below)
      (λ n below. indirect_continued m ty (slice_get (table_of m) n) below)
  effect_continued m instr.Drop ns s h = one_continued ns (λ n below. Continues below s) (λ n below. h)
  effect_continued m instr.Select ns s h = i32_continued ns (λ n below. selection bare n below s)
      (λ n below. selection_continued n below s h)
  effect_continued m (instr.Local op index) ns s h =
      either_continued (op == 0x20) (ReadsLocal index ns) (cond (op == 0x21) (on_one ns (λ n below. WritesLocal index n below))
      (on_one ns (λ n below. WritesLocal index n ns))) tt
      (either_continued (op == 0x21) (on_one ns (λ n below. WritesLocal index n below)) (on_one ns (λ n below. WritesLocal index n ns))
      (one_continued ns (λ n below. WritesLocal index n below) (λ n below. tt))
      (one_continued ns (λ n below. WritesLocal index n ns) (λ n below. tt)))
  effect_continued m i ns s h = plain_continued m i (signature_of m i) ns s h

-- ---- steps

found_falls : {A : Type 0} (n k : ℕ) (o : Option A) (go : A → Step) → ((x : A) → Falls n k (go x)) → Falls n k (where_found o go)
found_falls n k None go h = tt
found_falls n k (Some x) go h = h x

split_falls : (n k : ℕ) (o : Option (Split ℕ)) (go : List ℕ → List ℕ → Step) → ((x y : List ℕ) → Falls n k (go x y))
    → Falls n k (where_split o go)
split_falls n k None go h = tt
split_falls n k (Some p) go h = h p.top p.below

either_falls : (n k : ℕ) (b : Bool) (x y : Step) → Falls n k x → Falls n k y → Falls n k (cond b x y)
either_falls n k true x y g h = g
either_falls n k false x y g h = h

module _ (m : NestedModule) (fm : Module) (k : ℕ) (s : Store) (has : HasBytes k s) where
  back_falls : (n base depth : ℕ) (top below : List ℕ) (labels : List Label) (callers : List Frame) (f : ℕ)
      → 2 * f + (length labels + length callers) ≤ n → Falls n k (back base depth top below labels callers s f)
  back_falls n base depth top below labels [] f le = has
  back_falls n base depth top below labels (fr ∷ callers) f le = (omega (arith, le, length-drop depth labels), has)

  returning_falls : (n func base depth : ℕ) (values : List ℕ) (labels : List Label) (callers : List Frame) (f : ℕ)
      → 2 * f + (length labels + length callers) ≤ n → Falls n k (returning fm func base depth values labels callers s f)
  returning_falls n func base depth values labels callers f le =
      let go = λ (t : FuncType). where_split (split_first (length t.results) values)
      (λ top below. back base depth top below labels callers s f) in
      found_falls n k (slice_get fm.funcs func) (λ (g : Func). where_found (slice_get fm.types g.ty) go)
      (λ g. found_falls n k (slice_get fm.types g.ty) go (λ t.
      split_falls n k (split_first (length t.results) values) (λ top below. back base depth top below labels callers s f)
      (λ top below. back_falls n base depth top below labels callers f le)))

  calling_falls : (n index func position base depth : ℕ) (values : List ℕ) (labels : List Label) (callers : List Frame) (f : ℕ)
      → 2 * suc f + (length labels + length callers) ≤ n → Falls n k (calling fm index func position base depth values labels callers s f)
  calling_falls n index func position base depth values labels callers f le =
      let fr : Frame = record { func = func; position = position + 1; base = base; depth = depth } in
      let go = λ (g : Func) (t : FuncType). where_split (split_first (length t.params) values)
      (λ top below. Go index 0 (length below) 0 (replicate (length g.locals) 0 ++ values) labels (fr ∷ callers) s f) in
      either_falls n k (nat_lt (length callers) most_callers) (with_function fm index go) _
      (found_falls n k (slice_get fm.funcs index) (λ (g : Func). where_found (slice_get fm.types g.ty) (λ t. go g t))
      (λ g. found_falls n k (slice_get fm.types g.ty) (λ t. go g t) (λ t.
      split_falls n k (split_first (length t.params) values) (λ top below. Go index 0 (length below) 0
      (replicate (length g.locals) 0 ++ values) labels (fr ∷ callers) s f) (λ top below. (omega (arith, le), has)))))
      has

  branching_falls : (n label func base depth : ℕ) (values : List ℕ) (labels : List Label) (callers : List Frame) (f : ℕ)
      → 2 * f + (length labels + length callers) < n → Falls n k (branching fm label func base depth values labels callers s f)
  branching_falls n label func base depth values labels callers f le =
      let lands = λ (l : Label). where_split (split_first (length (types_of l.carries)) values)
      (λ top below. landing l label func base depth top below labels callers s f) in
      either_falls n k (nat_lt label depth) (where_found (slice_get labels label) lands)
      (returning fm func base depth values labels callers s f)
      (found_falls n k (slice_get labels label) lands (λ l. split_falls n k (split_first (length (types_of l.carries)) values)
      (λ top below. landing l label func base depth top below labels callers s f)
      (λ top below. (omega (arith, le, length-drop (closed_by l label) labels), has))))
      (returning_falls n func base depth values labels callers f (omega (arith, le)))

  doing_falls : (n : ℕ) (x : Effect ℕ) (func position base depth : ℕ) (labels : List Label) (callers : List Frame) (f : ℕ)
      → 2 * suc f + (length labels + length callers) ≤ n → Continued k x
      → Falls n k (doing fm x func position base depth labels callers s f)
  doing_falls n (Continues values store) func position base depth labels callers f le h = (omega (arith, le), h)
  doing_falls n (ReadsLocal index values) func position base depth labels callers f le h =
      found_falls n k (slice_get (reverse values) (base + index)) (λ x. Go func (position + 1) base depth (x ∷ values) labels callers s f)
      (λ x. (omega (arith, le), has))
  doing_falls n (WritesLocal index v values) func position base depth labels callers f le h =
      found_falls n k (slice_get (reverse values) (base + index))
      (λ old. Go func (position + 1) base depth (reverse (slice_set (reverse values) (base + index) v)) labels callers s f)
      (λ old. (omega (arith, le), has))
  doing_falls n (Branches label values) func position base depth labels callers f le h = branching_falls n label func base depth values
      labels callers f (omega (arith, le))
  doing_falls n (Returns values) func position base depth labels callers f le h = returning_falls n func base depth values labels callers f
      (omega (arith, le))
  doing_falls n (Calls index values) func position base depth labels callers f le h = calling_falls n index func position base depth values
      labels callers f le
  doing_falls n (Traps kind) func position base depth labels callers f le h = has
  doing_falls n effect.Stuck func position base depth labels callers f le h = tt

  closing_falls : (n func position base depth : ℕ) (values : List ℕ) (labels : List Label) (callers : List Frame) (f : ℕ)
      → 2 * f + (length labels + length callers) ≤ n → depth ≤ length labels
      → Falls n k (closing fm func position base depth values labels callers s f)
  closing_falls n func position base zero values labels callers f le h = returning_falls n func base 0 values labels callers f le
  closing_falls n func position base (suc depth) values labels callers f le h = (omega (arith, le, h, length-drop 1 labels), has)

  other_falls : (n : ℕ) (r : Option ValType) (q : Option ℕ) (end func base depth : ℕ) (values : List ℕ) (labels : List Label)
      (callers : List Frame) (f : ℕ) → 2 * suc f + (length labels + length callers) ≤ n
      → Falls n k (other_list r q end func base depth values labels callers s f)
  other_falls n r None end func base depth values labels callers f le = (omega (arith, le), has)
  other_falls n r (Some q) end func base depth values labels callers f le = (omega (arith, le), has)

  choosing_falls : (n : ℕ) (r : Option ValType) (q : Option ℕ) (end func position base depth : ℕ) (values : List ℕ) (labels : List Label)
      (callers : List Frame) (f : ℕ) → 2 * suc f + (length labels + length callers) ≤ n
      → Falls n k (choosing r q end func position base depth values labels callers s f)
  choosing_falls n r q end func position base depth [] labels callers f le = tt
  choosing_falls n r q end func position base depth (c ∷ values) labels callers f le =
      either_falls n k (c == 0) (other_list r q end func base depth values labels callers s f)
      (Go func (position + 1) base (depth + 1) values (block_label end (length values) r ∷ labels) callers s f)
      (other_falls n r q end func base depth values labels callers f le) (omega (arith, le), has)

  executing_falls : (n : ℕ) (o : Option Instr) (func position base depth : ℕ) (values : List ℕ) (labels : List Label) (callers : List Frame)
      (f : ℕ) → 2 * f + (length labels + length callers) ≤ n → depth ≤ length labels
      → Falls n k (executing m fm o func position base depth values labels callers s f)
  executing_falls n None func position base depth values labels callers f le h = tt
  executing_falls n (Some (instr.Else e)) func position base depth values labels callers f le h = closing_falls n func (e + 1) base depth
      values labels callers f le h
  executing_falls n (Some instr.End) func position base depth values labels callers f le h = closing_falls n func (position + 1) base depth
      values labels callers f le h
  executing_falls n (Some (instr.Block r e)) func position base depth values labels callers zero le h = has
  executing_falls n (Some (instr.Block r e)) func position base depth values labels callers (suc f) le h = (omega (arith, le), has)
  executing_falls n (Some (instr.Loop r e)) func position base depth values labels callers zero le h = has
  executing_falls n (Some (instr.Loop r e)) func position base depth values labels callers (suc f) le h = (omega (arith, le), has)
  executing_falls n (Some (instr.If r q e)) func position base depth values labels callers zero le h = has
  executing_falls n (Some (instr.If r q e)) func position base depth values labels callers (suc f) le h = choosing_falls n r q e func
      position base depth values labels callers f le
  executing_falls n (Some i) func position base depth values labels callers zero le h = has
  executing_falls n (Some i) func position base depth values labels callers (suc f) le h = doing_falls n (effect_of bare m i values s) func
      position base depth labels callers f le (effect_continued k m i values s has)

  pub step_falls : (func position base depth : ℕ) (values : List ℕ) (labels : List Label) (callers : List Frame) (f : ℕ)
      → depth ≤ length labels
      → Falls (2 * f + (length labels + length callers)) k (step_of m fm func position base depth values labels callers s f)
  step_falls func position base depth values labels callers f h =
      let n = 2 * f + (length labels + length callers) in
      found_falls n k (slice_get fm.funcs func) (λ (g : Func). executing m fm (slice_get g.body position) func position base depth values
      labels callers s f) (λ g.
      executing_falls n (slice_get g.body position) func position base depth values labels callers f (omega arith) h)
