-- What an instruction does over bare numbers is what it does over values.
use Rattle.std.proofs.Common.{◌≡◌, ℕ, List, [], ◌∷◌, ◌++◌, length, Option, Some, None, refl, sym, ap, ◌∙◌, subst, Bool, true, false}
use Rattle.std.specs.Prelude.{Ok, Err, cond, map, slice_get, slice_index_or, ◌==◌, ◌%◌, ◌^◌}
use Rattle.wasm_types.specs.declared.instr.ValType.{ValType}
use Rattle.wasm_types.specs.declared.instr.ValType.TheVariants.{I32}
use Rattle.wasm_types.specs.declared.instr.Instr.{Instr}
use Rattle.wasm_types.specs.declared.instr.Instr.TheVariants.{Unreachable, Br, BrIf, BrTable, Return, Call, CallIndirect, Drop, Select, Local}
use Rattle.wasm_types.specs.declared.module.FuncType.{FuncType}
use Rattle.wasm_types.specs.Spellable.{width}
use Rattle.wasm_types.specs.Modules.{NestedModule}
use Rattle.code_specs.specs.declared.trap.TrapKind.TheVariants as trap
use Rattle.code_specs.specs.Values.{Value, Split, is_same, is_of, bits_of, all_bits, with_top, split, split_first}
use Rattle.code_specs.specs.Stores.{Store}
use Rattle.code_specs.specs.Signatures.{Signature, is_same_type, type_of_function, signature_of}
use Rattle.code_specs.specs.Instances.{table_of}
use Rattle.code_specs.specs.Effects.{Effect, Continues, ReadsLocal, WritesLocal, Branches, Returns, Calls, Traps, Stuck, Meaning, typed, bare, on_split, on_one, on_i32, results, after_meaning, plain_effect, meaning_of, branch_if, selection, checked_call, indirect_call, effect_of}
use Rattle.code_laws.specs.Bare.{bits_of_effect}
use Rattle.code_laws.proofs.Tests.{some_is}

-- the effect over bare numbers is that over values, if that isn't stuck
abbrev Shows : Effect Value → Effect ℕ → Type 0
Shows Stuck e = Unit {0}
Shows (Continues vs s) e = e ≡ Continues (all_bits vs) s
Shows (ReadsLocal i vs) e = e ≡ ReadsLocal i (all_bits vs)
Shows (WritesLocal i v vs) e = e ≡ WritesLocal i v.bits (all_bits vs)
Shows (Branches label vs) e = e ≡ Branches label (all_bits vs)
Shows (Returns vs) e = e ≡ Returns (all_bits vs)
Shows (Calls i vs) e = e ≡ Calls i (all_bits vs)
Shows (Traps kind) e = e ≡ Traps kind

abbrev bits_of_split : Split Value → Split ℕ
bits_of_split p = record { top = all_bits p.top; below = all_bits p.below }

split_more : (ts : List ValType) (v : Value) (vs : List Value) (p : Split Value)
    → ((q : Split Value) → split ts vs ≡ Some q → split_first (length ts) (all_bits vs) ≡ Some (bits_of_split q))
    → (b : Bool) (o : Option (Split Value)) → split ts vs ≡ o → cond b (with_top v o) None ≡ Some p
    → with_top v.bits (split_first (length ts) (all_bits vs)) ≡ Some (bits_of_split p)
split_more ts v vs p h false o so e = cc
split_more ts v vs p h true None so e = cc
split_more ts v vs p h true (Some q) so e =
    ap (with_top v.bits) (h q so) ∙ ap (λ p. Some (bits_of_split p)) (some_is (record { top = v ∷ q.top; below = q.below }) p e)

first_of_split : (ts : List ValType) (vs : List Value) (p : Split Value) → split ts vs ≡ Some p
    → split_first (length ts) (all_bits vs) ≡ Some (bits_of_split p)
first_of_split [] vs p is = ap (λ p. Some (bits_of_split p)) (some_is (record { top = []; below = vs }) p is)
first_of_split (t ∷ ts) [] p is = cc
first_of_split (t ∷ ts) (v ∷ vs) p is = split_more ts v vs p (λ q e. first_of_split ts vs q e) (is_of t v) (split ts vs) refl is

split_shows : (ts : List ValType) (vs : List Value) (go : List Value → List Value → Effect Value) (to : List ℕ → List ℕ → Effect ℕ)
    → ((p : Split Value) → Shows (go p.top p.below) (to (all_bits p.top) (all_bits p.below)))
    → Shows (on_split (split ts vs) go) (on_split (split_first (length ts) (all_bits vs)) to)
split_shows ts vs go to h = by_split (split ts vs) refl
  where
    by_split : (o : Option (Split Value)) → split ts vs ≡ o → Shows (on_split o go) (on_split (split_first (length ts) (all_bits vs)) to)
    by_split None e = tt
    by_split (Some p) e = subst (λ q. Shows (go p.top p.below) (on_split q to)) (sym (first_of_split ts vs p e)) (h p)

one_shows : (vs : List Value) (go : Value → List Value → Effect Value) (to : ℕ → List ℕ → Effect ℕ)
    → ((v : Value) (below : List Value) → Shows (go v below) (to v.bits (all_bits below))) → Shows (on_one vs go) (on_one (all_bits vs) to)
one_shows [] go to h = tt
one_shows (v ∷ vs) go to h = h v vs

i32_shows : (vs : List Value) (go : ℕ → List Value → Effect Value) (to : ℕ → List ℕ → Effect ℕ)
    → ((n : ℕ) (below : List Value) → Shows (go n below) (to n (all_bits below)))
    → Shows (on_i32 typed vs go) (on_i32 bare (all_bits vs) to)
i32_shows vs go to h =
    split_shows (I32 ∷ []) vs (λ top below. on_one top (λ v none. go v.bits below)) (λ top below. on_one top (λ v none. to v below))
    (λ p. one_shows p.top (λ v none. go v.bits p.below) (λ v none. to v (all_bits p.below)) (λ v none. h v.bits p.below))

bits_append : (vs ws : List Value) → all_bits (vs ++ ws) ≡ all_bits vs ++ all_bits ws
bits_append [] ws = refl
bits_append (v ∷ vs) ws = ap (λ l. v.bits ∷ l) (bits_append vs ws)

results_bits : (ts : List ValType) (n : ℕ) → all_bits (results typed ts n) ≡ results bare ts n
results_bits [] n = refl
results_bits (t ∷ ts) n = ap (λ l. n % 2 ^ width t ∷ l) (results_bits ts n)

same_numbers : (ns : List ℕ) → map (λ n. n) ns ≡ ns
same_numbers [] = refl
same_numbers (n ∷ ns) = ap (λ l. n ∷ l) (same_numbers ns)

meaning_shows : (ts : List ValType) (below : List Value) (m : Meaning)
    → Shows (after_meaning typed ts below m) (after_meaning bare ts (all_bits below) m)
meaning_shows ts below (Ok c) =
    ap (λ l. continued l) (ap (λ l. l ++ all_bits below) (sym (results_bits ts c.number))
    ∙ sym (bits_append (results typed ts c.number) below))
  where
    continued : List ℕ → Effect ℕ
    continued l = Continues l c.store
meaning_shows ts below (Err kind) = refl

plain_shows : (m : NestedModule) (i : Instr) (g : Option Signature) (vs : List Value) (s : Store)
    → Shows (plain_effect typed m i g vs s) (plain_effect bare m i g (all_bits vs) s)
plain_shows m i None vs s = tt
plain_shows m i (Some g) vs s =
    split_shows g.takes vs (λ top below. after_meaning typed g.gives below (meaning_of m i (map bits_of top) s))
    (λ top below. after_meaning bare g.gives below (meaning_of m i (map (λ n. n) top) s))
    (λ p. subst (λ ns. Shows (after_meaning typed g.gives p.below (meaning_of m i (all_bits p.top) s))
    (after_meaning bare g.gives (all_bits p.below) (meaning_of m i ns s))) (sym (same_numbers (all_bits p.top)))
    (meaning_shows g.gives p.below (meaning_of m i (all_bits p.top) s)))

branch_shows : (b : Bool) (label : ℕ) (below : List Value) (s : Store)
    → Shows (cond b (Continues below s) (Branches label below)) (cond b (Continues (all_bits below) s) (Branches label (all_bits below)))
branch_shows true label below s = refl
branch_shows false label below s = refl

picked_shows : (b : Bool) (upper lower : Value) (below : List Value) (s : Store)
    → Shows (Continues (cond b upper lower ∷ below) s) (Continues (cond b upper.bits lower.bits ∷ all_bits below) s)
picked_shows true upper lower below s = refl
picked_shows false upper lower below s = refl

alike_shows : (b : Bool) (d : Effect Value) (e : Effect ℕ) → Shows d e → Shows (cond b d Stuck) e
alike_shows true d e h = h
alike_shows false d e h = tt

selection_shows : (n : ℕ) (vs : List Value) (s : Store) → Shows (selection typed n vs s) (selection bare n (all_bits vs) s)
selection_shows n [] s = tt
selection_shows n (v ∷ []) s = tt
selection_shows n (upper ∷ lower ∷ below) s =
    alike_shows (is_same lower.ty upper.ty) (Continues (cond (n == 0) upper lower ∷ below) s)
    (Continues (cond (n == 0) upper.bits lower.bits ∷ all_bits below) s)
    (picked_shows (n == 0) upper lower below s)

checked_shows : (index : ℕ) (asked has : Option FuncType) (below : List Value)
    → Shows (checked_call index asked has below) (checked_call index asked has (all_bits below))
checked_shows index None None below = tt
checked_shows index None (Some g) below = tt
checked_shows index (Some f) None below = tt
checked_shows index (Some f) (Some g) below = by_test (is_same_type f g)
  where
    by_test : (b : Bool) → Shows (cond b (Calls index below) (Traps trap.Signature))
        (cond b (Calls index (all_bits below)) (Traps trap.Signature))
    by_test true = refl
    by_test false = refl

indirect_shows : (m : NestedModule) (ty : ℕ) (entry : Option (Option ℕ)) (below : List Value)
    → Shows (indirect_call m ty entry below) (indirect_call m ty entry (all_bits below))
indirect_shows m ty None below = refl
indirect_shows m ty (Some None) below = refl
indirect_shows m ty (Some (Some index)) below = checked_shows index (slice_get m.types ty) (type_of_function m index) below

local_shows : (get set : Bool) (index : ℕ) (vs : List Value)
    → Shows (cond get (ReadsLocal index vs) (cond set (on_one vs (λ v below. WritesLocal index v below))
    (on_one vs (λ v below. WritesLocal index v vs))))
    (cond get (ReadsLocal index (all_bits vs)) (cond set (on_one (all_bits vs) (λ v below. WritesLocal index v below))
    (on_one (all_bits vs) (λ v below. WritesLocal index v (all_bits vs)))))
local_shows true set index vs = refl
local_shows false true index vs = one_shows vs (λ v below. WritesLocal index v below) (λ v below. WritesLocal index v below)
    (λ v below. refl)
local_shows false false index vs = one_shows vs (λ v below. WritesLocal index v vs) (λ v below. WritesLocal index v (all_bits vs))
    (λ v below. refl)

shows : (m : NestedModule) (i : Instr) (vs : List Value) (s : Store) → Shows (effect_of typed m i vs s) (effect_of bare m i (all_bits vs) s)
unfolding effect_of
shows m Unreachable vs s = refl
shows m (Br label) vs s = refl
shows m (BrIf label) vs s = i32_shows vs (λ n below. branch_if n label below s) (λ n below. branch_if n label below s)
    (λ n below. branch_shows (n == 0) label below s)
shows m (BrTable labels default) vs s = i32_shows vs (λ n below. Branches (slice_index_or labels n default) below)
    (λ n below. Branches (slice_index_or labels n default) below) (λ n below. refl)
shows m Return vs s = refl
shows m (Call index) vs s = refl
shows m (CallIndirect ty) vs s =
    i32_shows vs (λ n below. indirect_call m ty (slice_get (table_of m) n) below)
    (λ n below. indirect_call m ty (slice_get (table_of m) n) below) (λ n below. indirect_shows m ty (slice_get (table_of m) n) below)
shows m Drop vs s = one_shows vs (λ v below. Continues below s) (λ v below. Continues below s) (λ v below. refl)
shows m Select vs s = i32_shows vs (λ n below. selection typed n below s) (λ n below. selection bare n below s)
    (λ n below. selection_shows n below s)
shows m (Local op index) vs s = local_shows (op == 0x20) (op == 0x21) index vs
shows m i vs s = plain_shows m i (signature_of m i) vs s

shown : (d : Effect Value) (e : Effect ℕ) → Shows d e → (d ≡ Stuck → ⊥) → e ≡ bits_of_effect d
shown Stuck e h not_stuck = absurd (not_stuck refl)
shown (Continues vs s) e h not_stuck = h
shown (ReadsLocal i vs) e h not_stuck = h
shown (WritesLocal i v vs) e h not_stuck = h
shown (Branches label vs) e h not_stuck = h
shown (Returns vs) e h not_stuck = h
shown (Calls i vs) e h not_stuck = h
shown (Traps kind) e h not_stuck = h

pub bare_is : (m : NestedModule) (i : Instr) (vs : List Value) (s : Store) → (effect_of typed m i vs s ≡ Stuck → ⊥)
    → effect_of bare m i (all_bits vs) s ≡ bits_of_effect (effect_of typed m i vs s)
bare_is m i vs s not_stuck = shown (effect_of typed m i vs s) (effect_of bare m i (all_bits vs) s) (shows m i vs s) not_stuck
