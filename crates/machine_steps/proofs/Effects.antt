-- What an instruction does over bare numbers doesn't change with more of them below.
use Rattle.std.proofs.Common.{◌≡◌, ◌≢◌, ℕ, ◌≤◌, List, [], ◌∷◌, ◌++◌, length, Option, Some, None, refl, sym, ap, ◌∙◌, Bool, true, false, arith, append_assoc, length-append}
use Rattle.std.specs.Prelude.{Ok, Err, cond, map, slice_get, slice_index_or, ◌==◌}
use Rattle.wasm_types.specs.declared.instr.ValType.{ValType}
use Rattle.wasm_types.specs.declared.instr.ValType.TheVariants.{I32}
use Rattle.wasm_types.specs.declared.instr.Instr.{Instr}
use Rattle.wasm_types.specs.declared.instr.Instr.TheVariants.{Unreachable, Br, BrIf, BrTable, Return, Call, CallIndirect, Drop, Select, Local}
use Rattle.wasm_types.specs.declared.module.FuncType.{FuncType}
use Rattle.wasm_types.specs.Modules.{NestedModule}
use Rattle.code_specs.specs.declared.trap.TrapKind.TheVariants as trap
use Rattle.code_specs.specs.Values.{Value, Split, is_same, all_bits, split, split_first}
use Rattle.code_specs.specs.Stores.{Store}
use Rattle.code_specs.specs.Signatures.{Signature, is_same_type, type_of_function, signature_of}
use Rattle.code_specs.specs.Instances.{table_of}
use Rattle.code_specs.specs.Effects.{Effect, Continues, ReadsLocal, WritesLocal, Branches, Returns, Calls, Traps, Stuck, Meaning, typed, bare, on_split, on_one, on_i32, results, after_meaning, plain_effect, meaning_of, branch_if, selection, checked_call, indirect_call, effect_of}
use Rattle.code_laws.specs.Bare.{bits_of_effect}
use Rattle.code_laws.proofs.Bare.{bare_is}
use Rattle.machine_steps.proofs.Splits.{first_is, taken}

-- the effect with other numbers below its operands
abbrev pub over_low : List ℕ → Effect ℕ → Effect ℕ
over_low low (Continues ns s) = Continues (ns ++ low) s
over_low low (ReadsLocal i ns) = ReadsLocal i (ns ++ low)
over_low low (WritesLocal i n ns) = WritesLocal i n (ns ++ low)
over_low low (Branches label ns) = Branches label (ns ++ low)
over_low low (Returns ns) = Returns (ns ++ low)
over_low low (Calls i ns) = Calls i (ns ++ low)
over_low low (Traps kind) = Traps kind
over_low low Stuck = Stuck

-- the second effect is the first over other numbers, if that isn't stuck
abbrev Over : List ℕ → Effect ℕ → Effect ℕ → Type 0
Over low d e = d ≢ Stuck → e ≡ over_low low d

module _ (low : List ℕ) where
  one_over : (ns : List ℕ) (go to : ℕ → List ℕ → Effect ℕ)
      → ((n : ℕ) (below : List ℕ) → Over low (go n below) (to n (below ++ low))) → Over low (on_one ns go) (on_one (ns ++ low) to)
  one_over [] go to h fine = absurd (fine refl)
  one_over (n ∷ ns) go to h fine = h n ns fine

  split_over : (count : ℕ) (ns : List ℕ) (go to : List ℕ → List ℕ → Effect ℕ)
      → ((top below : List ℕ) → Over low (go top below) (to top (below ++ low)))
      → Over low (on_split (split_first count ns) go) (on_split (split_first count (ns ++ low)) to)
  split_over count ns go to h = by_split (split_first count ns) refl
    where
      by_split : (o : Option (Split ℕ)) → split_first count ns ≡ o → Over low (on_split o go) (on_split (split_first count (ns ++ low)) to)
      by_split None is fine = absurd (fine refl)
      by_split (Some p) is fine = ap (λ o. on_split o to) ((first_is count ns p is).over low) ∙ h p.top p.below fine

  i32_over : (ns : List ℕ) (go to : ℕ → List ℕ → Effect ℕ)
      → ((n : ℕ) (below : List ℕ) → Over low (go n below) (to n (below ++ low))) → Over low (on_i32 bare ns go) (on_i32 bare (ns ++ low) to)
  i32_over ns go to h =
      split_over 1 ns (λ top below. on_one top (λ n none. go n below)) (λ top below. on_one top (λ n none. to n below)) by_top
    where
      by_top : (top below : List ℕ) → Over low (on_one top (λ n none. go n below)) (on_one top (λ n none. to n (below ++ low)))
      by_top [] below fine = absurd (fine refl)
      by_top (n ∷ none) below fine = h n below fine

  meaning_over : (ts : List ValType) (below : List ℕ) (x : Meaning) → Over low (after_meaning bare ts below x) (after_meaning bare ts (below ++ low) x)
  meaning_over ts below (Ok c) fine = ap (λ ns. continued ns) (sym (append_assoc (results bare ts c.number) below low))
    where
      continued : List ℕ → Effect ℕ
      continued ns = Continues ns c.store
  meaning_over ts below (Err kind) fine = refl

  plain_over : (m : NestedModule) (i : Instr) (g : Option Signature) (ns : List ℕ) (s : Store)
      → Over low (plain_effect bare m i g ns s) (plain_effect bare m i g (ns ++ low) s)
  plain_over m i None ns s fine = absurd (fine refl)
  plain_over m i (Some g) ns s fine =
      split_over (length g.takes) ns (λ top below. after_meaning bare g.gives below (meaning_of m i (map (λ n. n) top) s)) (λ top below. after_meaning bare g.gives below (meaning_of m i (map (λ n. n) top) s))
      (λ top below. meaning_over g.gives below (meaning_of m i (map (λ n. n) top) s)) fine

  if_over : (b : Bool) (label : ℕ) (below : List ℕ) (s : Store)
      → Over low (cond b (Continues below s) (Branches label below)) (cond b (Continues (below ++ low) s) (Branches label (below ++ low)))
  if_over true label below s fine = refl
  if_over false label below s fine = refl

  selection_over : (n : ℕ) (ns : List ℕ) (s : Store) → Over low (selection bare n ns s) (selection bare n (ns ++ low) s)
  selection_over n [] s fine = absurd (fine refl)
  selection_over n (v ∷ []) s fine = absurd (fine refl)
  selection_over n (upper ∷ lower ∷ below) s fine = refl

  checked_over : (index : ℕ) (asked has : Option FuncType) (below : List ℕ) → Over low (checked_call index asked has below) (checked_call index asked has (below ++ low))
  checked_over index None None below fine = absurd (fine refl)
  checked_over index None (Some g) below fine = absurd (fine refl)
  checked_over index (Some f) None below fine = absurd (fine refl)
  checked_over index (Some f) (Some g) below fine = by_test (is_same_type f g)
    where
      by_test : (b : Bool) → cond b (Calls index (below ++ low)) (Traps trap.Signature) ≡ over_low low (cond b (Calls index below) (Traps trap.Signature))
      by_test true = refl
      by_test false = refl

  indirect_over : (m : NestedModule) (ty : ℕ) (entry : Option (Option ℕ)) (below : List ℕ) → Over low (indirect_call m ty entry below) (indirect_call m ty entry (below ++ low))
  indirect_over m ty None below fine = refl
  indirect_over m ty (Some None) below fine = refl
  indirect_over m ty (Some (Some index)) below fine = checked_over index (slice_get m.types ty) (type_of_function m index) below fine

  local_over : (get set : Bool) (index : ℕ) (ns : List ℕ)
      → Over low (cond get (ReadsLocal index ns) (cond set (on_one ns (λ n below. WritesLocal index n below)) (on_one ns (λ n below. WritesLocal index n ns))))
      (cond get (ReadsLocal index (ns ++ low)) (cond set (on_one (ns ++ low) (λ n below. WritesLocal index n below)) (on_one (ns ++ low) (λ n below. WritesLocal index n (ns ++ low)))))
  local_over true set index ns fine = refl
  local_over false true index ns fine = one_over ns (λ n below. WritesLocal index n below) (λ n below. WritesLocal index n below) (λ n below fine. refl) fine
  local_over false false index ns fine = one_over ns (λ n below. WritesLocal index n ns) (λ n below. WritesLocal index n (ns ++ low)) (λ n below fine. refl) fine

  bare_over : (m : NestedModule) (i : Instr) (ns : List ℕ) (s : Store) → Over low (effect_of bare m i ns s) (effect_of bare m i (ns ++ low) s)
  unfolding effect_of
  bare_over m Unreachable ns s fine = refl
  bare_over m (Br label) ns s fine = refl
  bare_over m (BrIf label) ns s fine = i32_over ns (λ n below. branch_if n label below s) (λ n below. branch_if n label below s) (λ n below. if_over (n == 0) label below s) fine
  bare_over m (BrTable labels default) ns s fine = i32_over ns (λ n below. Branches (slice_index_or labels n default) below) (λ n below. Branches (slice_index_or labels n default) below) (λ n below fine. refl) fine
  bare_over m Return ns s fine = refl
  bare_over m (Call index) ns s fine = refl
  bare_over m (CallIndirect ty) ns s fine =
      i32_over ns (λ n below. indirect_call m ty (slice_get (table_of m) n) below) (λ n below. indirect_call m ty (slice_get (table_of m) n) below) (λ n below. indirect_over m ty (slice_get (table_of m) n) below) fine
  bare_over m Drop ns s fine = one_over ns (λ n below. Continues below s) (λ n below. Continues below s) (λ n below fine. refl) fine
  bare_over m Select ns s fine = i32_over ns (λ n below. selection bare n below s) (λ n below. selection bare n below s) (λ n below. selection_over n below s) fine
  bare_over m (Local op index) ns s fine = local_over (op == 0x20) (op == 0x21) index ns fine
  bare_over m i ns s fine = plain_over m i (signature_of m i) ns s fine

bits_fine : (d : Effect Value) → d ≢ Stuck → bits_of_effect d ≢ Stuck
bits_fine Stuck fine e = fine refl
bits_fine (Continues vs s) fine e = cc
bits_fine (ReadsLocal i vs) fine e = cc
bits_fine (WritesLocal i v vs) fine e = cc
bits_fine (Branches label vs) fine e = cc
bits_fine (Returns vs) fine e = cc
bits_fine (Calls i vs) fine e = cc
bits_fine (Traps kind) fine e = cc

-- what an instruction does over values, it does over their bits with any numbers below
pub wide : (m : NestedModule) (i : Instr) (vs : List Value) (s : Store) (low : List ℕ) → effect_of typed m i vs s ≢ Stuck
    → effect_of bare m i (all_bits vs ++ low) s ≡ over_low low (bits_of_effect (effect_of typed m i vs s))
wide m i vs s low fine =
    let bits = bare_is m i vs s fine in
    bare_over low m i (all_bits vs) s (λ stuck. bits_fine (effect_of typed m i vs s) fine (sym bits ∙ stuck))
    ∙ ap (over_low low) bits

-- ---- a call leaves no more operands than there were

abbrev pub CallsWithin : ℕ → Effect Value → Type 0
CallsWithin n (Calls i vs) = length vs ≤ n
CallsWithin n d = Unit {0}

module _ (n : ℕ) where
  split_within : (ts : List ValType) (vs : List Value) (go : List Value → List Value → Effect Value) → length vs ≤ n
      → ((top below : List Value) → length below ≤ n → CallsWithin n (go top below)) → CallsWithin n (on_split (split ts vs) go)
  split_within ts vs go le h = by_split (split ts vs) refl
    where
      by_split : (o : Option (Split Value)) → split ts vs ≡ o → CallsWithin n (on_split o go)
      by_split None is = tt
      by_split (Some p) is =
          let t = taken ts vs p is in
          h p.top p.below (omega (arith, le, ap length t.whole, length-append p.top p.below))

  one_within : (vs : List Value) (go : Value → List Value → Effect Value) → ((v : Value) (below : List Value) → CallsWithin n (go v below)) → CallsWithin n (on_one vs go)
  one_within [] go h = tt
  one_within (v ∷ vs) go h = h v vs

  i32_within : (vs : List Value) (go : ℕ → List Value → Effect Value) → length vs ≤ n
      → ((c : ℕ) (below : List Value) → length below ≤ n → CallsWithin n (go c below)) → CallsWithin n (on_i32 typed vs go)
  i32_within vs go le h =
      split_within (I32 ∷ []) vs (λ top below. on_one top (λ v none. go v.bits below)) le (λ top below le. one_within top (λ v none. go v.bits below) (λ v none. h v.bits below le))

  either_within : (b : Bool) (d e : Effect Value) → CallsWithin n d → CallsWithin n e → CallsWithin n (cond b d e)
  either_within true d e g h = g
  either_within false d e g h = h

  meaning_within : (ts : List ValType) (below : List Value) (x : Meaning) → CallsWithin n (after_meaning typed ts below x)
  meaning_within ts below (Ok c) = tt
  meaning_within ts below (Err kind) = tt

  plain_within : (m : NestedModule) (i : Instr) (g : Option Signature) (vs : List Value) (s : Store) → length vs ≤ n → CallsWithin n (plain_effect typed m i g vs s)
  plain_within m i None vs s le = tt
  plain_within m i (Some g) vs s le =
      split_within g.takes vs (λ top below. after_meaning typed g.gives below (meaning_of m i (all_bits top) s)) le (λ top below le. meaning_within g.gives below (meaning_of m i (all_bits top) s))

  selection_within : (c : ℕ) (vs : List Value) (s : Store) → CallsWithin n (selection typed c vs s)
  selection_within c [] s = tt
  selection_within c (v ∷ []) s = tt
  selection_within c (upper ∷ lower ∷ below) s = either_within (is_same lower.ty upper.ty) (Continues (cond (c == 0) upper lower ∷ below) s) Stuck tt tt

  checked_within : (index : ℕ) (asked has : Option FuncType) (below : List Value) → length below ≤ n → CallsWithin n (checked_call index asked has below)
  checked_within index None None below le = tt
  checked_within index None (Some g) below le = tt
  checked_within index (Some f) None below le = tt
  checked_within index (Some f) (Some g) below le = either_within (is_same_type f g) (Calls index below) (Traps trap.Signature) le tt

  indirect_within : (m : NestedModule) (ty : ℕ) (entry : Option (Option ℕ)) (below : List Value) → length below ≤ n → CallsWithin n (indirect_call m ty entry below)
  indirect_within m ty None below le = tt
  indirect_within m ty (Some None) below le = tt
  indirect_within m ty (Some (Some index)) below le = checked_within index (slice_get m.types ty) (type_of_function m index) below le

  pub calls_within : (m : NestedModule) (i : Instr) (vs : List Value) (s : Store) → length vs ≤ n → CallsWithin n (effect_of typed m i vs s)
  unfolding effect_of
  calls_within m Unreachable vs s le = tt
  calls_within m (Br label) vs s le = tt
  calls_within m (BrIf label) vs s le = i32_within vs (λ c below. branch_if c label below s) le (λ c below le. either_within (c == 0) (Continues below s) (Branches label below) tt tt)
  calls_within m (BrTable labels default) vs s le = i32_within vs (λ c below. Branches (slice_index_or labels c default) below) le (λ c below le. tt)
  calls_within m Return vs s le = tt
  calls_within m (Call index) vs s le = le
  calls_within m (CallIndirect ty) vs s le = i32_within vs (λ c below. indirect_call m ty (slice_get (table_of m) c) below) le (λ c below le. indirect_within m ty (slice_get (table_of m) c) below le)
  calls_within m Drop vs s le = one_within vs (λ v below. Continues below s) (λ v below. tt)
  calls_within m Select vs s le = i32_within vs (λ c below. selection typed c below s) le (λ c below le. selection_within c below s)
  calls_within m (Local op index) vs s le =
      either_within (op == 0x20) (ReadsLocal index vs) (cond (op == 0x21) (on_one vs (λ v below. WritesLocal index v below)) (on_one vs (λ v below. WritesLocal index v vs))) tt
      (either_within (op == 0x21) (on_one vs (λ v below. WritesLocal index v below)) (on_one vs (λ v below. WritesLocal index v vs))
      (one_within vs (λ v below. WritesLocal index v below) (λ v below. tt)) (one_within vs (λ v below. WritesLocal index v vs) (λ v below. tt)))
  calls_within m i vs s le = plain_within m i (signature_of m i) vs s le
