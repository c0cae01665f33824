-- Values that are taken apart, and their bits.
use Rattle.std.proofs.Common.{◌≡◌, ℕ, zero, suc, List, [], ◌∷◌, ◌++◌, length, Option, Some, None, refl, ap, subst, Bool, true, false}
use Rattle.std.specs.Prelude.{cond}
use Rattle.wasm_types.specs.declared.instr.ValType.{ValType}
use Rattle.code_specs.specs.Values.{Value, Split, is_of, all_bits, with_top, split, split_first}
use Rattle.code_laws.proofs.Tests.{some_is}

if_some : {A : Type 0} (b : Bool) (o : Option A) (x : A) → cond b o None ≡ Some x → o ≡ Some x
if_some true o x e = e
if_some false o x e = cc

-- what lies behind a top that was taken
record Behind {V : Type 0} (v : V) (o : Option (Split V)) (p : Split V) : Type 0 where
  rest : Split V
  is : o ≡ Some rest
  whole : record { top = v ∷ rest.top; below = rest.below } ≡ p

behind : {V : Type 0} (v : V) (o : Option (Split V)) (p : Split V) → with_top v o ≡ Some p → Behind v o p
behind v None p e = cc
behind v (Some q) p e = record { rest = q; is = refl; whole = some_is (record { top = v ∷ q.top; below = q.below }) p e }

-- so many of the topmost
pub record First (n : ℕ) (ns : List ℕ) (p : Split ℕ) : Type 0 where
  pub whole : ns ≡ p.top ++ p.below
  pub count : length p.top ≡ n
  pub over : (low : List ℕ) → split_first n (ns ++ low) ≡ Some (record { top = p.top; below = p.below ++ low })

pub first_is : (n : ℕ) (ns : List ℕ) (p : Split ℕ) → split_first n ns ≡ Some p → First n ns p
first_is zero ns p e =
    subst (First 0 ns) (some_is (record { top = []; below = ns }) p e) (record { whole = refl; count = refl; over = λ low. refl })
first_is (suc n) [] p e = cc
first_is (suc n) (x ∷ ns) p e =
    let b = behind x (split_first n ns) p e in
    let h = first_is n ns b.rest b.is in
    subst (First (suc n) (x ∷ ns)) b.whole (record {
      whole = ap (λ l. x ∷ l) h.whole;
      count = ap suc h.count;
      over = λ low. ap (with_top x) (h.over low);
    })

-- values of these types are the topmost, and their bits are found over any others
pub record Taken (ts : List ValType) (vs : List Value) (p : Split Value) : Type 0 where
  pub whole : vs ≡ p.top ++ p.below
  pub count : length p.top ≡ length ts
  pub over : (low : List ℕ) → split_first (length ts) (all_bits vs ++ low) ≡ Some
      (record { top = all_bits p.top; below = all_bits p.below ++ low })

pub taken : (ts : List ValType) (vs : List Value) (p : Split Value) → split ts vs ≡ Some p → Taken ts vs p
taken [] vs p e =
    subst (Taken [] vs) (some_is (record { top = []; below = vs }) p e) (record { whole = refl; count = refl; over = λ low. refl })
taken (t ∷ ts) [] p e = cc
taken (t ∷ ts) (v ∷ vs) p e =
    let b = behind v (split ts vs) p (if_some (is_of t v) (with_top v (split ts vs)) p e) in
    let h = taken ts vs b.rest b.is in
    subst (Taken (t ∷ ts) (v ∷ vs)) b.whole (record {
      whole = ap (λ l. v ∷ l) h.whole;
      count = ap suc h.count;
      over = λ low. ap (with_top v.bits) (h.over low);
    })
