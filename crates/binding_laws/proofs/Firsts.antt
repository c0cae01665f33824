-- The first row that a module doesn't have.
use Rattle.std.specs.Prelude.{◌≡◌, ℕ, zero, suc, ◌+◌, ◌<◌, Bool, true, false, List, [], ◌∷◌, Option, None, Some, cond, slice_get, refl}
use Rattle.std.proofs.Common.{subst, arith}
use Rattle.wasm_types.specs.declared.module.Export.{Export}
use Rattle.wasm_types.specs.Modules.{NestedModule}
use Rattle.binding_specs.specs.declared.error.BindError.{BindError}
use Rattle.binding_specs.specs.declared.error.BindError.TheVariants.{Missing, Signature}
use Rattle.binding_specs.specs.Exports.{Row, rows, export_named, is_item, fault_at, or_else, first_fault_from, binding_fault}
use Rattle.binding_laws.specs.Words.{Has, IsFirstFault, Faults}

record IsFirst (m : NestedModule) (rs : List Row) (i : ℕ) (r : Row) : Type 0 where
  pub row : slice_get rs i ≡ Some r
  pub before : (j : ℕ) (has : Row) → j < i → slice_get rs j ≡ Some has → Has m has

-- of rows of which the first has this number
abbrev FaultsFrom : NestedModule → (start : ℕ) → List Row → BindError → Type 0
FaultsFrom m start rs (Missing n) = (i : ℕ) × (start + i ≡ n) × (r : Row) × IsFirst m rs i r × (export_named r.name m.exports ≡ None)
FaultsFrom m start rs (Signature n) =
    (i : ℕ) × (start + i ≡ n) × (r : Row) × IsFirst m rs i r × (e : Export) × (export_named r.name m.exports ≡ Some e) × (is_item m e r.item ≡ false)

at_once : (m : NestedModule) (r : Row) (rs : List Row) → IsFirst m (r ∷ rs) 0 r
at_once m r rs = record { row = refl; before = λ j has less at. absurd (omega arith) }

same_row : (m : NestedModule) (r has : Row) → Has m r → Some r ≡ Some has → Has m has
same_row m r has h e = let same : r ≡ has = cc in subst (Has m) same h

one_later : (m : NestedModule) (r : Row) (rs : List Row) (i : ℕ) (last : Row) → Has m r → IsFirst m rs i last → IsFirst m (r ∷ rs) (suc i) last
one_later m r rs i last h first = record { row = first.row; before = before }
  where
    before : (j : ℕ) (has : Row) → j < suc i → slice_get (r ∷ rs) j ≡ Some has → Has m has
    before zero has less at = same_row m r has h at
    before (suc j) has less at = first.before j has (omega arith) at

faults_later : (m : NestedModule) (start : ℕ) (r : Row) (rs : List Row) (fault : BindError) → Has m r → FaultsFrom m (start + 1) rs fault → FaultsFrom m start (r ∷ rs) fault
faults_later m start r rs (Missing n) h f =
    let e : start + suc f.0 ≡ n = omega (arith, f.1) in
    (suc f.0, e, f.2, one_later m r rs f.0 f.2 h f.3, f.4)
faults_later m start r rs (Signature n) h f =
    let e : start + suc f.0 ≡ n = omega (arith, f.1) in
    (suc f.0, e, f.2, one_later m r rs f.0 f.2 h f.3, f.4, f.5, f.6)

this_fault : (m : NestedModule) (start : ℕ) (rs : List Row) (one fault : BindError) → Some one ≡ Some fault → FaultsFrom m start rs one → FaultsFrom m start rs fault
this_fault m start rs one fault e f = let same : one ≡ fault = cc in subst (FaultsFrom m start rs) same f

-- the first row's fault, or that of the rows behind it
module _ (m : NestedModule) (start : ℕ) (r : Row) (rs : List Row) (fault : BindError)
    (rest : first_fault_from m (start + 1) rs ≡ Some fault → FaultsFrom m (start + 1) rs fault) where
  by_test : (e : Export) → export_named r.name m.exports ≡ Some e → (b : Bool) → is_item m e r.item ≡ b
      → or_else (cond b None (Some (Signature start))) (first_fault_from m (start + 1) rs) ≡ Some fault → FaultsFrom m start (r ∷ rs) fault
  by_test e at true is h = faults_later m start r rs fault (record { export = e; named = at; is = is }) (rest h)
  by_test e at false is h =
      let n : start + 0 ≡ start = omega arith in
      this_fault m start (r ∷ rs) (Signature start) fault h (0, n, r, at_once m r rs, e, at, is)

  by_export : (o : Option Export) → export_named r.name m.exports ≡ o
      → or_else (fault_at m start r.item o) (first_fault_from m (start + 1) rs) ≡ Some fault → FaultsFrom m start (r ∷ rs) fault
  by_export None at h =
      let n : start + 0 ≡ start = omega arith in
      this_fault m start (r ∷ rs) (Missing start) fault h (0, n, r, at_once m r rs, at)
  by_export (Some e) at h = by_test e at (is_item m e r.item) refl h

found : (m : NestedModule) (start : ℕ) (rs : List Row) (fault : BindError) → first_fault_from m start rs ≡ Some fault → FaultsFrom m start rs fault
found m start [] fault h = cc
found m start (r ∷ rs) fault h =
    by_export m start r rs fault (λ h. found m (start + 1) rs fault h) (export_named r.name m.exports) refl h

numbered : (m : NestedModule) (i n : ℕ) (r : Row) → 0 + i ≡ n → IsFirst m rows i r → IsFirstFault m n r
numbered m i n r e first =
    let same : i ≡ n = omega (arith, e) in
    subst (λ k. IsFirstFault m k r) same (record { row = first.row; before = first.before })

from_rows : (m : NestedModule) (fault : BindError) → FaultsFrom m 0 rows fault → Faults m fault
from_rows m (Missing n) f = (f.2, numbered m f.0 n f.2 f.1 f.3, f.4)
from_rows m (Signature n) f = (f.2, numbered m f.0 n f.2 f.1 f.3, f.4, f.5, f.6)

pub first_is : (m : NestedModule) (fault : BindError) → binding_fault m ≡ Some fault → Faults m fault
unfolding binding_fault
first_is m fault h = from_rows m fault (found m 0 rows fault h)
