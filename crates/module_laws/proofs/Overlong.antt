-- A fault lies in the file, but for a section's size that leads past it.
use Rattle.std.proofs.Common.{◌≡◌, ℕ, ◌+◌, ◌<◌, ◌≤◌, Bool, true, false, List, length, take, Option, Some, None, Ok, Err, refl, sym, subst, arith, inl, inr}
use Rattle.std.specs.Prelude.{nat_lt, ◌⊎◌}
use Rattle.std.proofs.lemmas.Bool.{ltb-true, ltb-false}
use Rattle.leb_bytes.proofs.Spelled.{bytes_of_all}
use Rattle.module_specs.specs.declared.fault.Fault.{Fault}
use Rattle.module_specs.specs.declared.fault.Fault.TheVariants as fault
use Rattle.module_specs.specs.declared.section.SectionKind.{SectionKind}
use Rattle.module_specs.specs.Fronts.{StatesEnd, after_all}
use Rattle.module_specs.specs.ModuleSpelling.{Section, Before, start}
use Rattle.module_specs.specs.Reading.{Read, ◌>>=◌, refuse_if, byte_at, u32_at, sized_at}
use Rattle.module_specs.specs.ModuleReading.{section_content_at, kind_of_id, known, falls, section_at, module_read}
use Rattle.module_specs.specs.Faults.{IsIn}
use Rattle.module_specs.proofs.Places.{byte_here}
use Rattle.module_specs.proofs.Readers.{full_at}
use Rattle.module_specs.proofs.Regions.{region_size}
use Rattle.module_specs.proofs.Within.{Fine, earlier, unless, byte_stays, u32_stays}
use Rattle.module_laws.specs.Files.{IsOverlong}
use Rattle.module_laws.specs.Readings.{IsOfBytes, FaultsLieInFile, FaultsAreOfBytes}
use Rattle.module_laws.proofs.Contents.{InRegion, allows, content_lies}
use Rattle.module_laws.proofs.Causes.{OfSection, Cause, cause}

-- the section at a place states an end past the bytes, and the fault is Short there
abbrev Past : List ℕ → ℕ → Fault → Type 0
Past b at e = (stop : ℕ) × StatesEnd b at stop × (length b < stop) × (e ≡ fault.Short stop)

module _ (b : List ℕ) (s : Before) (at : ℕ) (le : at ≤ length b) where
  abbrev Lies : ℕ → Fault → Type 0
  Lies end e = InRegion (length b) e ⊎ Past b at e

  weaker : {A : Type 0} (p : ℕ) (r : Read A) → Fine InRegion b p r → Fine Lies b p r
  weaker p (Ok x) f = f
  weaker p (Err e) f = inl f

  module _ (id p : ℕ) (id_is : byte_at b at ≡ Ok (id, p)) (k : SectionKind) (low : at ≤ p) (within : p ≤ length b) where
    abbrev content : List ℕ → ℕ → Read Section
    content = section_content_at s at k

    abbrev sized_then : ℕ × ℕ → Read Section
    sized_then size = refuse_if (nat_lt (length b) (size.1 + size.0)) (fault.Short (size.1 + size.0)) >>= λ fine. content (take (size.1 + size.0) b) size.1 >>= full_at (fault.Size at) (size.1 + size.0)

    from_region : (size : ℕ × ℕ) (r : Read Section) → p ≤ size.1 → size.1 + size.0 ≤ length b → Fine InRegion (take (size.1 + size.0) b) size.1 r → Fine Lies b p (r >>= full_at (fault.Size at) (size.1 + size.0))
    from_region size (Err e) more small f = inl (f.0, (let is = region_size b (size.1 + size.0) small in omega (arith, f.1)))
    from_region size (Ok x) more small f = by_end (nat_lt x.1 (size.1 + size.0))
      where
        by_end : (t : Bool) → Fine Lies b p (refuse_if t (fault.Size at) >>= λ full. (let r : Read Section = Ok x in r))
        by_end true = inl (tt, le)
        by_end false = (omega (arith, f.0), omega (arith, f.1, region_size b (size.1 + size.0) small))

    next_place : p ≡ at + 1
    next_place = let h = byte_here b at p id id_is in omega (arith, h.size)

    states : (size next : ℕ) → u32_at b p ≡ Ok (size, next) → StatesEnd b at (next + size)
    states size next is = record {
      id = id;
      size = size;
      next = next;
      id_is = subst (λ (n : ℕ). byte_at b at ≡ Ok (id, n)) next_place id_is;
      size_is = subst (λ (n : ℕ). u32_at b n ≡ Ok (size, next)) next_place is;
      end_is = refl;
    }

    sized_lies : Fine Lies b p (sized_at (λ end. fault.Short end) (fault.Size at) content b p)
    unfolding sized_at
    sized_lies = by_size (u32_at b p) refl (u32_stays InRegion allows b p within)
      where
        by_size : (r : Read ℕ) → u32_at b p ≡ r → Fine InRegion b p r → Fine Lies b p (r >>= sized_then)
        by_size (Err e) is f = inl f
        by_size (Ok size) is f = by_test (nat_lt (length b) (size.1 + size.0)) (λ e. ltb-true _ _ e) (λ e. ltb-false _ _ e)
          where
            by_test : (t : Bool) → (t ≡ true → length b < size.1 + size.0) → (t ≡ false → size.1 + size.0 ≤ length b)
                → Fine Lies b p (refuse_if t (fault.Short (size.1 + size.0)) >>= λ fine. content (take (size.1 + size.0) b) size.1 >>= full_at (fault.Size at) (size.1 + size.0))
            by_test true lt ge = inr (size.1 + size.0, states size.0 size.1 is, lt refl, refl)
            by_test false lt ge =
                let small : size.1 + size.0 ≤ length b = ge refl in
                let is_size = region_size b (size.1 + size.0) small in
                from_region size (content (take (size.1 + size.0) b) size.1) f.0 small (content_lies s at k (take (size.1 + size.0) b) size.1 (omega (arith, f.0)) (omega (arith, is_size)))

  section_lies : Fine Lies b at (section_at s b at)
  unfolding section_at
  section_lies = by_byte (byte_at b at) refl (byte_stays InRegion allows b at le)
    where
      risen : ℕ → SectionKind → Read Section
      risen p k = refuse_if (falls s.last k) (fault.Order at) >>= λ rising. sized_at (λ end. fault.Short end) (fault.Size at) (section_content_at s at k) b p

      by_kind : (id p : ℕ) → byte_at b at ≡ Ok (id, p) → at ≤ p → p ≤ length b → (o : Option SectionKind) → Fine Lies b at (known at o >>= risen p)
      by_kind id p is more within None = inl (tt, le)
      by_kind id p is more within (Some k) =
          unless Lies b at (falls s.last k) (fault.Order at) (λ rising. sized_at (λ end. fault.Short end) (fault.Size at) (section_content_at s at k) b p) (inl (tt, le))
          (λ rising. earlier Lies b at (sized_at (λ end. fault.Short end) (fault.Size at) (section_content_at s at k) b p) p more (sized_lies id p is k more within))

      by_byte : (r : Read ℕ) → byte_at b at ≡ r → Fine InRegion b at r → Fine Lies b at (r >>= λ id. known at (kind_of_id id.0) >>= risen id.1)
      by_byte (Err e) is f = inl f
      by_byte (Ok id) is f = by_kind id.0 id.1 is f.0 f.1 (kind_of_id id.0)

-- ---- the file

section_fault : (b : List ℕ) (s : Before) (at : ℕ) (e : Fault) → at ≤ length b → section_at s b at ≡ Err e → InRegion (length b) e ⊎ Past b at e
section_fault b s at e le is = subst (Fine (Lies b s at le) b at) is (section_lies b s at le)

of_section : (b : List ℕ) (e : Fault) (o : OfSection b e) → InRegion (length b) e ⊎ Past b (let f = o.failing in f.at) e
of_section b e o = let f = o.failing in section_fault b (after_all f.sections start) f.at e (omega (arith, f.more)) f.fails

pub lie : FaultsLieInFile module_read
lie b e bytes h = by_cause (cause b e (bytes_of_all b bytes) h)
  where
    by_cause : Cause b e → IsIn (length b) e ⊎ ((stop : ℕ) × IsOverlong b stop × (e ≡ fault.Short stop))
    by_cause (inl x) = inl (subst (IsIn (length b)) (sym x.1) (omega (arith, x.0)))
    by_cause (inr (inl o)) = inl o.inside
    by_cause (inr (inr (inl o))) =
        let f = o.failing in
        elim (of_section b e o) [
          | inl r ↦ inl r.1
          | inr p ↦ inr (
            p.0,
            record {
              sections = f.sections;
              at = f.at;
              before = record { header = o.header; text = f.text; here = f.here; spelled = f.spelled };
              states = p.1;
              past = p.2;
            },
            p.3,
          )
        ]
    by_cause (inr (inr (inr x))) = inl (subst (IsIn (length b)) (sym x.1) (omega arith))

pub of_bytes : FaultsAreOfBytes module_read
of_bytes b e bytes h = by_cause (cause b e (bytes_of_all b bytes) h)
  where
    of_header : ((e ≡ fault.Magic 0) ⊎ (e ≡ fault.Version 4)) → IsOfBytes e
    of_header (inl is) = subst IsOfBytes (sym is) tt
    of_header (inr is) = subst IsOfBytes (sym is) tt

    by_cause : Cause b e → IsOfBytes e
    by_cause (inl x) = subst IsOfBytes (sym x.1) tt
    by_cause (inr (inl o)) = let n = o.headless in of_header n.of_header
    by_cause (inr (inr (inl o))) =
        elim (of_section b e o) [
          | inl r ↦ r.0
          | inr p ↦ subst IsOfBytes (sym p.3) tt
        ]
    by_cause (inr (inr (inr x))) = subst IsOfBytes (sym x.1) tt
