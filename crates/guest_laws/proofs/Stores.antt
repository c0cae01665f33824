-- What every call keeps of the store of a guest: whole pages, as many as its module allows, and globals that its code may have.
use Rattle.std.proofs.Common.{◌≡◌, ◌≤◌, ◌<◌, ℕ, zero, suc, ◌+◌, ◌*◌, ◌/◌, ◌^◌, ◌==◌, ◌&&◌, Bool, true, false, List, [], ◌∷◌, ◌++◌, length}
use Rattle.std.proofs.Common.{Option, Some, None, slice_get, arith, refl, sym, ap, subst}
use Rattle.std.specs.Prelude.{Ok, Result, cond, negsuc, replicate, take, drop, nat_le, slice_range, slice_set, option_and_then}
use Rattle.std.proofs.lemmas.Bool.{and_parts, leb-true, le-leb, lt-ltb, eqb-true, eq-eqb}
use Rattle.std.proofs.lemmas.List.{length-append, length-replicate, length-take, length-drop}
use Rattle.fmi_states.specs.declared.call.Call.{Call}
use Rattle.fmi_states.specs.declared.reply.Broken.{Broken}
use Rattle.wasm_types.specs.declared.instr.Instr.{Instr}
use Rattle.wasm_types.specs.declared.instr.Instr.TheVariants as instr
use Rattle.wasm_types.specs.declared.module.GlobalVar.{GlobalVar}
use Rattle.wasm_types.specs.Spellable.{width}
use Rattle.wasm_types.specs.Modules.{NestedModule}
use Rattle.code_specs.specs.Values.{Value}
use Rattle.code_specs.specs.Stores.{Store, page_size, pages, greatest_pages, bytes_of, bytes_at, replaced_at}
use Rattle.code_specs.specs.Instances.{least}
use Rattle.code_specs.specs.Integers.{unsigned}
use Rattle.code_specs.specs.Numerics.{binary}
use Rattle.code_specs.specs.Signatures.{Signature, signature_of, global_signature, access_bytes}
use Rattle.code_specs.specs.Effects.{store_meaning, meaning_of}
use Rattle.code_specs.specs.Execution.{Answer, Returned, Trapped, Spent, Stuck, answer_of}
use Rattle.code_laws.specs.Answers.{Fit}
use Rattle.code_laws.proofs.Tests.{some_is}
use Rattle.code_laws.proofs.Kept.{KeepsMeaning, KeepsAnswer, kept}
use Rattle.code_laws.proofs.Ranges.{numeric_keeps, load_keeps}
use Rattle.wasm_machine.specs.Making.{global_suits, globals_suit, suits}
use Rattle.binding_specs.specs.Guests.{Guest, bytes_place, area_size}
use Rattle.binding_specs.specs.Pieces.{Work, outcome}
use Rattle.binding_specs.specs.Answers.{work_of, answer}
use Rattle.binding_laws.proofs.Follows.{tested}
use Rattle.binding_laws.proofs.Kept.{Keeps, exchange_keeps}

pub record StoreSuits (m : NestedModule) (s : Store) : Type 0 where
  pub count : ℕ
  pub whole : length s.bytes ≡ count * page_size
  pub least : least (slice_get m.memories 0) ≤ count
  pub most : count ≤ greatest_pages m
  pub globals : globals_suit m.globals s.globals ≡ true

-- ---- the same as a test

all-true : (a b c d : Bool) → a ≡ true → b ≡ true → c ≡ true → d ≡ true → (((a && b) && c) && d) ≡ true
all-true a b c d p q r s = rw (p, q, r, s) refl

pages-are : (m : NestedModule) (s : Store) (h : StoreSuits m s) → pages s ≡ h.count
pages-are m s h = let w = h.whole in omega (arith, w)

pub to-suits : (m : NestedModule) (s : Store) → StoreSuits m s → suits m (pages s) s.bytes s.globals ≡ true
to-suits m s h = subst (λ (n : ℕ). suits m n s.bytes s.globals ≡ true) (sym (pages-are m s h))
    (all-true (nat_le (least (slice_get m.memories 0)) h.count) (nat_le h.count (greatest_pages m)) (length s.bytes == h.count * page_size)
    (globals_suit m.globals s.globals) (le-leb (least (slice_get m.memories 0)) h.count h.least) (le-leb h.count (greatest_pages m) h.most)
    (eq-eqb (length s.bytes) (h.count * page_size) h.whole) h.globals)

pub from-suits : (m : NestedModule) (n : ℕ) (s : Store) → suits m n s.bytes s.globals ≡ true → StoreSuits m s
from-suits m n s h =
    let low = nat_le (least (slice_get m.memories 0)) n in
    let high = nat_le n (greatest_pages m) in
    let same = length s.bytes == n * page_size in
    let a = and_parts ((low && high) && same) (globals_suit m.globals s.globals) h in
    let b = and_parts (low && high) same a.0 in
    let c = and_parts low high b.0 in
    record {
      count = n;
      whole = eqb-true (length s.bytes) (n * page_size) b.1;
      least = leb-true (least (slice_get m.memories 0)) n c.0;
      most = leb-true n (greatest_pages m) c.1;
      globals = a.1;
    }

-- ---- globals

both-true : (a b : Bool) → a ≡ true → b ≡ true → (a && b) ≡ true
both-true a b p q = rw (p, q) refl

set-suits : (gs : List GlobalVar) (ns : List ℕ) (i n : ℕ) (g : GlobalVar) → globals_suit gs ns ≡ true → slice_get gs i ≡ Some g
    → g.mutable ≡ true → n < 2 ^ width g.ty → globals_suit gs (slice_set ns i n) ≡ true
set-suits [] [] i n g h is may lt = cc
set-suits [] (k ∷ ns) i n g h is may lt = absurd cc
set-suits (x ∷ gs) [] i n g h is may lt = absurd cc
set-suits (x ∷ gs) (k ∷ ns) zero n g h is may lt =
    let same = some_is x g is in
    both-true (global_suits x n) (globals_suit gs ns) (subst (λ (x : GlobalVar). global_suits x n ≡ true) (sym same) (fits g may lt))
    (and_parts (global_suits x k) (globals_suit gs ns) h).1
  where
    fits : (g : GlobalVar) → g.mutable ≡ true → n < 2 ^ width g.ty → global_suits g n ≡ true
    fits g may lt = rw (lt-ltb n (2 ^ width g.ty) lt, may) refl
set-suits (x ∷ gs) (k ∷ ns) (suc i) n g h is may lt =
    let p = and_parts (global_suits x k) (globals_suit gs ns) h in
    both-true (global_suits x k) (globals_suit gs (slice_set ns i n)) p.0 (set-suits gs ns i n g p.1 is may lt)

-- global.set takes a number of the type of a global that code may set
record Sets (m : NestedModule) (index n : ℕ) : Type 0 where
  global : GlobalVar
  is : slice_get m.globals index ≡ Some global
  may : global.mutable ≡ true
  fits : n < 2 ^ width global.ty

abbrev get_of : GlobalVar → Option Signature
get_of g = Some (record { takes = []; gives = g.ty ∷ [] })

abbrev set_of : GlobalVar → Option Signature
set_of g = Some (record { takes = g.ty ∷ []; gives = [] })

sets : (m : NestedModule) (op index n : ℕ) (g : Signature) → option_and_then (global_signature op) (slice_get m.globals index) ≡ Some g
    → Fit g.takes (n ∷ []) → Sets m index n
sets m op index n g is fits = by_global (slice_get m.globals index) refl is
  where
    by_tests : (x : GlobalVar) (one two : Bool) → slice_get m.globals index ≡ Some x → (two ≡ true → x.mutable ≡ true)
        → cond one (get_of x) (cond two (set_of x) None) ≡ Some g → Sets m index n
    by_tests x true two at may e = absurd (subst (λ (g : Signature). Fit g.takes (n ∷ []))
        (sym (some_is (record { takes = []; gives = x.ty ∷ [] }) g e)) fits)
    by_tests x false true at may e = record {
      global = x;
      is = at;
      may = may refl;
      fits = (subst (λ (g : Signature). Fit g.takes (n ∷ [])) (sym (some_is (record { takes = x.ty ∷ []; gives = [] }) g e)) fits).0;
    }
    by_tests x false false at may e = cc

    by_global : (o : Option GlobalVar) → slice_get m.globals index ≡ o → option_and_then (global_signature op) o ≡ Some g → Sets m index n
    by_global None at e = cc
    by_global (Some x) at e = by_tests x (op == 0x23) (op == 0x24 && x.mutable) at (λ t. (and_parts (op == 0x24) x.mutable t).1) e

-- ---- bytes

counted : (count n : ℕ) → length (bytes_of count n) ≡ count
unfolding bytes_of
counted zero n = refl
counted (suc count) n = ap suc (counted count (n / 256))

pub size : (bytes new : List ℕ) (address : ℕ) → address + length new ≤ length bytes → length (replaced_at bytes address new) ≡ length bytes
size bytes new address le =
    let one = length-append (take address bytes) (new ++ drop (address + length new) bytes) in
    let two = length-append new (drop (address + length new) bytes) in
    let front = length-take address bytes in
    let back = length-drop (address + length new) bytes in
    omega (arith, le, one, two, front, back)

-- ---- instructions

same-size : (m : NestedModule) (s t : Store) → length t.bytes ≡ length s.bytes → t.globals ≡ s.globals → StoreSuits m s → StoreSuits m t
same-size m s t l g h = record {
  count = h.count;
  whole = let w = h.whole in omega (arith, l, w);
  least = h.least;
  most = h.most;
  globals = subst (λ (ns : List ℕ). globals_suit m.globals ns ≡ true) (sym g) h.globals;
}

store-keeps : (m : NestedModule) (address count n : ℕ) (s : Store) (b : Bool) → nat_le (address + count) (length s.bytes) ≡ b
    → StoreSuits m s
    → KeepsMeaning (StoreSuits m)
    (store_meaning address (bytes_of count n) s (cond b (Some (slice_range s.bytes address (address + count))) None))
store-keeps m address count n s false e h = tt
store-keeps m address count n s true e h =
    let le = leb-true (address + count) (length s.bytes) e in
    let c = counted count n in
    same-size m s _ (size s.bytes (bytes_of count n) address (omega (arith, le, c))) refl h

grow-keeps : (m : NestedModule) (more : ℕ) (s : Store) (b : Bool) → nat_le (pages s + more) (greatest_pages m) ≡ b → StoreSuits m s
    → KeepsMeaning (StoreSuits m)
    (cond b (Ok (record { number = pages s; store = record s { bytes = s.bytes ++ replicate (more * page_size) 0 } }))
    (Ok (record { number = unsigned 32 (negsuc 0); store = s })))
grow-keeps m more s false e h = h
grow-keeps m more s true e h =
    let le = leb-true (pages s + more) (greatest_pages m) e in
    let p = pages-are m s h in
    let w = h.whole in
    let low = h.least in
    let a = length-append s.bytes (replicate (more * page_size) 0) in
    let r = length-replicate {A = ℕ} (more * page_size) 0 in
    record {
      count = h.count + more;
      whole = omega (arith, a, r, w);
      least = omega (arith, low);
      most = omega (arith, le, p);
      globals = h.globals;
    }

by-meaning : (m : NestedModule) (i : Instr) (g : Signature) (numbers : List ℕ) (s : Store) → signature_of m i ≡ Some g → Fit g.takes numbers
    → StoreSuits m s → KeepsMeaning (StoreSuits m) (meaning_of m i numbers s)
unfolding meaning_of signature_of
by-meaning m (instr.Numeric op) g (j ∷ i ∷ []) s is fits h = numeric_keeps (StoreSuits m) (binary op i j) s h
by-meaning m (instr.Globals op index) g (n ∷ []) s is fits h = let x = sets m op index n g is fits in record {
  count = h.count;
  whole = h.whole;
  least = h.least;
  most = h.most;
  globals = set-suits m.globals s.globals index n x.global h.globals x.is x.may x.fits;
}
by-meaning m (instr.Access op align offset) g (base ∷ []) s is fits h =
    load_keeps (StoreSuits m) op s (bytes_at s.bytes (base + offset) (access_bytes op)) h
by-meaning m (instr.Access op align offset) g (n ∷ base ∷ []) s is fits h =
    store-keeps m (base + offset) (access_bytes op) n s (nat_le (base + offset + access_bytes op) (length s.bytes)) refl h
by-meaning m instr.MemoryGrow g (more ∷ []) s is fits h = grow-keeps m more s (nat_le (pages s + more) (greatest_pages m)) refl h
by-meaning m instr.MemorySize g [] s is fits h = h
by-meaning m instr.MemorySize g (n ∷ ns) s is fits h = h
by-meaning m i g numbers s is fits h = h

-- ---- exchanges

outcome-keeps : (P : Store → Type 0) (budget : ℕ) (a : Answer Value) (w : Work) → KeepsAnswer P a → P w.store
    → P (outcome budget a w).1.store
outcome-keeps P budget (Returned values s left) w k h = k
outcome-keeps P budget (Trapped kind s left) w k h = k
outcome-keeps P budget (Spent s) w k h = k
outcome-keeps P budget Stuck w k h = h

work-keeps : (g : Guest) (c : Call) → Keeps g c (λ w. StoreSuits g.code w.store)
work-keeps g c = record {
  by_run = λ index arguments w h. outcome-keeps (StoreSuits g.code) g.budget (answer_of g.code index arguments w.store g.budget) w
      (kept (StoreSuits g.code) g.code (record { by = by-meaning g.code }) index arguments w.store g.budget h) h;
  by_write = λ bytes w h.
      tested (λ (p : Result (Unit {0}) Broken × Work). StoreSuits g.code p.1.store)
      (nat_le (g.area + bytes_place + length bytes) (length w.store.bytes)) _ _
      (λ e. same-size g.code w.store _
      (size w.store.bytes bytes (g.area + bytes_place) (leb-true (g.area + bytes_place + length bytes) (length w.store.bytes) e)) refl h)
      (λ e. h);
  by_place = λ e address w h.
      tested (λ (p : Result (Unit {0}) Broken × Work). StoreSuits g.code p.1.store)
      (nat_le (address + area_size g.description) (length w.store.bytes)) _ _ (λ e. h) (λ e. h);
}

pub store-stays : (g : Guest) (c : Call) → StoreSuits g.code g.store → StoreSuits g.code (answer g c).1.store
unfolding answer
store-stays g c h = exchange_keeps g c (λ w. StoreSuits g.code w.store) (work-keeps g c) (work_of g) h
