-- Modules that are cut.
use Rattle.std.proofs.Common.{◌≡◌, ℕ, ◌+◌, ◌<◌, ◌≤◌, List, [], ◌∷◌, ◌++◌, length, take, drop, Result, Ok, Err, refl, sym, ap, subst, ◌∙◌, arith, append-nil, inl, inr}
use Rattle.std.specs.Prelude.{◌⊎◌}
use Rattle.std.proofs.lemmas.Bool.{cases_lt}
use Rattle.leb_bytes.proofs.Spelled.{bytes_of_all}
use Rattle.wasm_types.specs.Modules.{NestedModule}
use Rattle.module_specs.specs.declared.fault.Fault.{Fault}
use Rattle.module_specs.specs.Spelling.{Here}
use Rattle.module_specs.specs.Fronts.{Begins, after_all}
use Rattle.module_specs.specs.ModuleSpelling.{Section, Before, start, SpellsSections, SpellsModule, module_of, declared, magic, version, most_bytes}
use Rattle.module_specs.specs.ModuleReading.{module_read}
use Rattle.module_specs.proofs.Places.{here_first, here_second, here_join, same_text}
use Rattle.module_specs.proofs.Regions.{take_fits, region_size}
use Rattle.module_specs.proofs.Modules.{module_again, module_here}
use Rattle.module_specs.proofs.Cuts.{cut_behind, cut_is_behind}
use Rattle.module_laws.specs.Files.{IsBehind, IsInSection, IsInside, HasBodies}
use Rattle.module_laws.specs.Cuts.{EachPlace, RefusesCuts, CutsAreModules, CutsAreCounted}
use Rattle.module_laws.proofs.Determined.{tell, same_end, GoesOn, goes_on, same_sections, after_both, spelled_both, front_is, begins_whole, all_begins}

-- ---- inside and behind

-- sections don't end in a section
not_in : (b : List ℕ) (place : ℕ) → IsInSection b place → IsBehind b place → ⊥
not_in b place inside behind = by_others r.others r.text r.spelled r.here
  where
    r : GoesOn b inside.sections behind.0 start inside.at place
    r =
        let before = inside.before in
        let begins = behind.1 in
        goes_on b inside.sections behind.0 start 8 inside.at place before.text begins.text before.spelled before.here begins.spelled begins.here (omega (arith, inside.begun))

    by_others : (ys : List Section) (text : List ℕ) → SpellsSections (after_all inside.sections start) ys text → Here b inside.at text place → ⊥
    by_others [] text t h = absurd (omega (arith, inside.begun, h.size, ap length t))
    by_others (y ∷ ys) text t h =
        let k = same_text b inside.at place text (t.0 ++ t.1) t.2 h in
        let end : inside.at + length t.0 ≡ inside.next = same_end b (after_all inside.sections start) inside.at y inside.section (inside.at + length t.0) inside.next t.0 inside.text t.3 (here_first b inside.at place t.0 t.1 k) inside.spelled inside.here in
        let rest = here_second b inside.at place t.0 t.1 k in
        absurd (omega (arith, inside.unfinished, rest.size))

pub not_both : (b : List ℕ) (place : ℕ) → IsInside b place → IsBehind b place → ⊥
not_both b place (inl header) behind = let begins = behind.1 in absurd (omega (arith, header, begins.here.size))
not_both b place (inr inside) behind = not_in b place inside behind

module _ (b : List ℕ) (place : ℕ) where
  -- what is found from sections on that are spelled behind others
  abbrev OnFrom : List Section → List Section → ℕ → ℕ → List ℕ → Type 0
  OnFrom done xs at end text = Begins b done at → SpellsSections (after_all done start) xs text → Here b at text end → at ≤ place → IsInside b place ⊎ IsBehind b place

  find : (done xs : List Section) (at end : ℕ) (text : List ℕ) → Begins b done at → SpellsSections (after_all done start) xs text → Here b at text end → at ≤ place → place ≤ end
      → IsInside b place ⊎ IsBehind b place
  find done [] at end text begins t h low high =
      let same : at ≡ place = omega (arith, h.size, ap length t) in
      inr (done, subst (Begins b done) same begins)
  find done (x ∷ xs) at end text begins t h low high = by_start (λ longer spelled here past. find (done ++ x ∷ []) xs (at + length t.0) end t.1 longer spelled here past high) (cases_lt at place)
    where
      mid : ℕ
      mid = at + length t.0

      k : Here b at (t.0 ++ t.1) end
      k = same_text b at end text (t.0 ++ t.1) t.2 h

      first : Here b at t.0 mid
      first = here_first b at end t.0 t.1 k

      begins_next : Begins b (done ++ x ∷ []) mid
      begins_next = record {
        header = begins.header;
        text = begins.text ++ t.0;
        here = here_join b 8 at mid begins.text t.0 begins.here first;
        spelled = spelled_both done (x ∷ []) start begins.text t.0 begins.spelled (t.0, [], sym (append-nil t.0), t.3, refl);
      }

      by_end : OnFrom (done ++ x ∷ []) xs mid end t.1 → at < place → ((place < mid) ⊎ (mid ≤ place)) → IsInside b place ⊎ IsBehind b place
      by_end others begun (inl unfinished) =
          inl (inr (record { sections = done; at = at; before = begins; section = x; text = t.0; next = mid; here = first; spelled = t.3; begun = begun; unfinished = unfinished }))
      by_end others begun (inr past) =
          others begins_next (subst (λ (s : Before). SpellsSections s xs t.1) (sym (after_both done (x ∷ []) start)) t.4) (here_second b at end t.0 t.1 k) past

      by_start : OnFrom (done ++ x ∷ []) xs mid end t.1 → ((at < place) ⊎ (place ≤ at)) → IsInside b place ⊎ IsBehind b place
      by_start others (inl begun) = by_end others begun (cases_lt place mid)
      by_start others (inr there) = let same : at ≡ place = omega arith in inr (done, subst (Begins b done) same begins)

  find_all : (m : NestedModule) → SpellsModule m b → place ≤ length b → IsInside b place ⊎ IsBehind b place
  find_all m s le =
      let all = all_begins m b s in
      let begins = all.begins in
      elim (cases_lt place 8) [
        | inl header ↦ inl (inl header)
        | inr behind ↦ find [] all.sections 8 (length b) begins.text (record { header = begins.header; text = []; here = record { whole = refl; size = omega arith; within = begins.header.within }; spelled = refl }) begins.spelled begins.here behind le
      ]

pub each : EachPlace SpellsModule
each m b place s le = (find_all b place m s le, not_both b place)

-- ---- cuts inside

inside_lies : (m : NestedModule) (b : List ℕ) (place : ℕ) → SpellsModule m b → IsInside b place → place ≤ length b
inside_lies m b place s (inl header) = let all = all_begins m b s in let begins = all.begins in omega (arith, header, begins.header.within)
inside_lies m b place s (inr inside) = omega (arith, inside.unfinished, inside.here.within)

pub refuses_inside : RefusesCuts module_read
refuses_inside m b place bytes s inside = by_read (module_read (take place b)) refl
  where
    by_read : (r : Result NestedModule Fault) → module_read (take place b) ≡ r → (e : Fault) × (module_read (take place b) ≡ Err e)
    by_read (Ok k) is =
        let x = cut_is_behind tell b (bytes_of_all b bytes) place k (inside_lies m b place s inside) is in
        absurd (not_both b place inside (x.0, x.1))
    by_read (Err e) is = (e, is)

-- ---- cuts behind

-- what is left is spelled by the sections that are left
left_is : (b : List ℕ) (xs : List Section) (place : ℕ) (begins : Begins b xs place) → take place b ≡ magic ++ (version ++ begins.text)
left_is b xs place begins = front_is b ((magic ++ version) ++ begins.text) place (begins_whole b xs place begins)

pub are_modules : CutsAreModules module_read
are_modules m b place xs s begins bodies =
    let size : length (take place b) ≤ most_bytes = let is = region_size b place begins.here.within in omega (arith, is, s.0, begins.here.within) in
    module_again tell (module_of xs) (take place b) (size, (begins.text, left_is b xs place begins, (xs, refl, bodies, begins.spelled)))

pub are_counted : CutsAreCounted module_read
are_counted m b place xs bytes s begins lacks =
    elim (cut_behind tell b xs place (let small : place ≤ most_bytes = omega (arith, s.0, begins.here.within) in small) begins) [
      | inl is ↦ absurd (lacks (bodies (module_here tell (module_of xs) (take place b) (take_fits place b (bytes_of_all b bytes)) is)))
      | inr is ↦ is
    ]
  where
    bodies : SpellsModule (module_of xs) (take place b) → HasBodies xs
    bodies t =
        let r = t.1 in
        let x = r.2 in
        let rest : r.0 ≡ begins.text = ap (drop 8) (sym r.1 ∙ left_is b xs place begins) in
        let same : x.0 ≡ xs = same_sections x.0 xs begins.text (subst (SpellsSections start x.0) rest x.3) begins.spelled in
        x.2 ∙ ap (λ l. length (declared l [])) same
