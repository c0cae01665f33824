-- What is wrong in one thing breaks a law.
use Rattle.std.proofs.Common.{◌≡◌, ℕ, ◌<◌, Bool, true, false, cond, List, [], ◌∷◌, ◌++◌, take, Result, Err, refl, sym, ap, ◌∙◌, arith, inl, inr, append-nil}
use Rattle.std.specs.Prelude.{nat_lt}
use Rattle.std.proofs.lemmas.Bool.{ltb-true}
use Rattle.std.proofs.lemmas.List.Elements.{All-nil, All-cons}
use Rattle.std.specs.Str.{is_utf8, chars}
use Rattle.std.proofs.lemmas.Str.{IsUtf8-from_is_utf8}
use Rattle.leb_bytes.proofs.Spelled.{bytes_of_all}
use Rattle.wasm_types.specs.Modules.{NestedModule}
use Rattle.module_specs.specs.declared.fault.Fault.{Fault}
use Rattle.module_specs.specs.declared.fault.Fault.TheVariants as fault
use Rattle.module_specs.specs.Spelling.{Here}
use Rattle.module_specs.specs.Fronts.{Begins}
use Rattle.module_specs.specs.ModuleSpelling.{Section, Custom, Start, Funcs, start, empty, SpellsSection, SpellsModule}
use Rattle.module_specs.specs.Reading.{byte_at, u32_at}
use Rattle.module_specs.specs.ModuleReading.{section_at, module_read}
use Rattle.module_specs.proofs.Places.{ok_is}
use Rattle.module_specs.proofs.Sections.{section_again, section_here}
use Rattle.module_specs.proofs.Modules.{module_again, module_here}
use Rattle.module_laws.specs.Files.{IsFront, AreBytes, IsFile, IsInside, IsBroken, HasBodies}
use Rattle.module_laws.specs.Grammars.{SpellsOne, SpellsUnlessCause, IgnoresCustom}
use Rattle.module_laws.specs.Readings.{GivesSpelled, RefusesUnspelled, RefusalsHaveCauses, FaultsLieInFile, FaultsAreOfBytes, FaultsStay}
use Rattle.module_laws.specs.Cuts.{RefusesCuts, CutsAreModules, CutsAreCounted}
use Rattle.module_laws.specs.Wrong as wrong
use Rattle.module_laws.specs.Worked.{start_file, start_module, funcs_file, funcs_module, broken_file, nothing-is, start-is, start-section, start-8, funcs-is, funcs-section, funcs-12, broken-section, broken-is, broken-more}
use Rattle.module_laws.proofs.Determined.{tell, clash, Filled}
use Rattle.module_laws.proofs.Customs.{ignored}
use Rattle.module_laws.proofs.Causes.{none_stuck, unless_cause}
use Rattle.module_specs.proofs.Regions.{narrow}

-- ---- the files are bytes

abbrev are_small : List ℕ → Bool
are_small [] = true
are_small (x ∷ l) = cond (nat_lt x 256) (are_small l) false

both : (s t : Bool) → cond s t false ≡ true → (s ≡ true) × (t ≡ true)
both true t e = (refl, e)
both false t e = absurd cc

bytes_by : (l : List ℕ) → are_small l ≡ true → AreBytes l
bytes_by [] e = All-nil (λ x. x < 256)
bytes_by (x ∷ l) e = let s = both (nat_lt x 256) (are_small l) e in All-cons (λ x. x < 256) x l (ltb-true x 256 s.0) (bytes_by l s.1)

nothing_bytes : AreBytes []
nothing_bytes = bytes_by [] refl

start_bytes : AreBytes start_file
start_bytes = bytes_by start_file refl

funcs_bytes : AreBytes funcs_file
funcs_bytes = bytes_by funcs_file refl

-- ---- what they spell

start_spelled : SpellsModule start_module start_file
start_spelled = module_here tell start_module start_file (bytes_of_all start_file start_bytes) start-is

funcs_spelled : SpellsModule funcs_module funcs_file
funcs_spelled = module_here tell funcs_module funcs_file (bytes_of_all funcs_file funcs_bytes) funcs-is

header_spelled : SpellsModule empty (wrong.header start_file)
header_spelled = module_here tell empty (wrong.header start_file) (bytes_of_all (wrong.header start_file) (bytes_by (wrong.header start_file) refl)) start-8

differ : start_module ≡ empty → ⊥
differ e = let starts : start_module.start ≡ empty.start = ap (λ (m : NestedModule). m.start) e in absurd cc

-- ---- grammars

pub front-refused : SpellsOne wrong.SpellsFront → ⊥
front-refused h = differ (h start_module empty start_file (11, start_spelled) (8, header_spelled))

-- the header alone
front_of_start : IsFront (wrong.header start_file)
front_of_start = record { sections = []; rest = []; whole = refl; spelled = refl }

-- its name has no byte, and nothing follows it
custom_spelled : SpellsSection start Custom (0 ∷ 1 ∷ 0 ∷ [])
unfolding is_utf8 chars
custom_spelled = (tt, (1 ∷ 0 ∷ [], refl, (1 ∷ [], 0 ∷ [], refl, (omega arith, omega arith, refl), ([], (0 ∷ [], [], refl, (IsUtf8-from_is_utf8 [] refl, (0 ∷ [], [], refl, (omega arith, omega arith, refl), refl)), tt)))))

pub unmarked-refused : IgnoresCustom wrong.SpellsUnmarked → ⊥
unmarked-refused h =
    let r = (h start_module (wrong.header start_file) (0 ∷ 1 ∷ 0 ∷ []) (8 ∷ 1 ∷ 5 ∷ []) front_of_start custom_spelled (omega arith)).0 (start_spelled, λ e. absurd (omega (arith, e))) in
    r.1 refl

-- with a custom section behind its header the start file is a module, and has no cause
pub cause-refused : SpellsUnlessCause wrong.SpellsUnmarked → ⊥
cause-refused h =
    let spelled = (ignored start_module (wrong.header start_file) (0 ∷ 1 ∷ 0 ∷ []) (8 ∷ 1 ∷ 5 ∷ []) front_of_start custom_spelled (omega arith)).0 start_spelled in
    (unless_cause marked marked_file).1 ((h marked marked_file).0 (λ m s. s.1 refl)) start_module spelled
  where
    marked : List ℕ
    marked = wrong.header start_file ++ (0 ∷ 1 ∷ 0 ∷ []) ++ (8 ∷ 1 ∷ 5 ∷ [])

    marked_file : IsFile marked
    marked_file = record { bytes = bytes_by marked refl; small = omega arith }

-- ---- readings

pub header-refused : GivesSpelled wrong.header_alone → ⊥
header-refused h = differ (ok_is start_module empty (sym ((h start_module start_file start_bytes).1 start_spelled) ∙ start-8))

no_module : (m : NestedModule) → SpellsModule m [] → ⊥
no_module m s = clash (module_read []) (fault.Magic 0) m nothing-is (module_again tell m [] s)

pub never-refused : RefusesUnspelled wrong.never_refused → ⊥
never-refused h =
    let r = (h [] nothing_bytes).1 no_module in
    clash (wrong.never_refused []) r.0 empty r.1 (ap wrong.or_nothing nothing-is)

pub past-refused : FaultsLieInFile wrong.past_the_end → ⊥
past-refused h =
    elim (h [] (fault.Form 1) nothing_bytes (ap (wrong.at_place 1) nothing-is)) [
      | inl within ↦ absurd (omega (arith, within))
      | inr past ↦ let same : fault.Form 1 ≡ fault.Short past.0 = past.2 in absurd cc
    ]

pub never-read-refused : FaultsAreOfBytes wrong.never_read → ⊥
never-read-refused h = h [] fault.Memory nothing_bytes refl

-- the header alone, and no sections
begins_none : (rest : List ℕ) → Begins (wrong.header start_file ++ rest) [] 8
begins_none rest = record {
  header = record { whole = refl; size = refl; within = omega arith };
  text = [];
  here = record { whole = refl; size = refl; within = omega arith };
  spelled = refl;
}

broken : IsBroken (broken_file []) 10
unfolding byte_at u32_at
broken = record {
  at = 8;
  stuck = record { sections = []; before = begins_none (8 ∷ 0 ∷ []); more = omega arith; unspelled = unspelled };
  states = record { id = 8; size = 0; next = 10; id_is = refl; size_is = refl; end_is = refl };
  inside = omega arith;
}
  where
    unspelled : (x : Section) (text : List ℕ) (next : ℕ) → Here (broken_file []) 8 text next → SpellsSection start x text → ⊥
    unspelled x text next h s = clash (section_at start (broken_file []) 8) (fault.Short 10) (x, next) broken-section (section_again tell start (broken_file []) 8 next x text s h)

pub end-refused : FaultsStay wrong.at_the_end → ⊥
end-refused h = absurd (differs (sym other ∙ stays))
  where
    one : List ℕ
    one = broken_file []

    two : List ℕ
    two = broken_file (0 ∷ [])

    one_file : IsFile one
    one_file = record { bytes = bytes_by one refl; small = omega arith }

    two_file : IsFile two
    two_file = record { bytes = bytes_by two refl; small = omega arith }

    stays : wrong.at_the_end two ≡ Err (fault.Form 10)
    stays = h one two 10 (fault.Form 10) one_file two_file broken (record { in_first = omega arith; in_second = omega arith; same = refl }) (ap (wrong.at_place 10) broken-is)

    other : wrong.at_the_end two ≡ Err (fault.Form 11)
    other = ap (wrong.at_place 11) broken-more

    differs : (let r : Result NestedModule Fault = Err (fault.Form 11) in r ≡ Err (fault.Form 10)) → ⊥
    differs e = absurd cc

-- ---- cuts

in_start : IsInside start_file 10
in_start =
    let x = section_here tell start start_file (bytes_of_all start_file start_bytes) 8 11 (Start 5) start-section in
    inr (record { sections = []; at = 8; before = begins_none (8 ∷ 1 ∷ 5 ∷ []); section = Start 5; text = x.0; next = 11; here = x.1; spelled = x.3; begun = omega arith; unfinished = omega arith })

pub cut-refused : RefusesCuts wrong.header_alone → ⊥
cut-refused h =
    let r = h start_module start_file 10 start_bytes start_spelled in_start in
    clash (wrong.header_alone start_file) r.0 empty r.1 start-8

begins_funcs : Begins funcs_file (Funcs (0 ∷ []) ∷ []) 12
begins_funcs =
    let x = section_here tell start funcs_file (bytes_of_all funcs_file funcs_bytes) 8 12 (Funcs (0 ∷ [])) funcs-section in
    let none = begins_none (3 ∷ 2 ∷ 1 ∷ 0 ∷ 10 ∷ 4 ∷ 1 ∷ 2 ∷ 0 ∷ 0x0B ∷ []) in
    record { header = none.header; text = x.0; here = x.1; spelled = (x.0, [], sym (append-nil x.0), x.3, refl) }

no_body : HasBodies (Funcs (0 ∷ []) ∷ []) → ⊥
no_body e = absurd (omega (arith, e))

pub count-refused : CutsAreCounted wrong.uncounted → ⊥
count-refused h =
    let r = h funcs_module funcs_file 12 (Funcs (0 ∷ []) ∷ []) funcs_bytes funcs_spelled begins_funcs no_body in
    clash (wrong.uncounted (take 12 funcs_file)) (fault.Count 12) empty r (ap wrong.without_count funcs-12)

pub modules-refused : CutsAreModules wrong.never_read → ⊥
modules-refused h =
    clash (wrong.never_read (take 8 start_file)) fault.Memory empty refl (h start_module start_file 8 [] start_spelled (begins_none (8 ∷ 1 ∷ 5 ∷ [])) refl)

-- the functions that are left have no bodies, and sections stand up to the end
left_filled : Filled (take 12 funcs_file)
left_filled = record { sections = Funcs (0 ∷ []) ∷ []; begins = begins }
  where
    begins : Begins (take 12 funcs_file) (Funcs (0 ∷ []) ∷ []) 12
    begins = record {
      header = record { whole = refl; size = refl; within = omega arith };
      text = begins_funcs.text;
      here = narrow funcs_file 12 (omega arith) 8 12 begins_funcs.text (omega arith) begins_funcs.here;
      spelled = begins_funcs.spelled;
    }

pub no-count-refused : RefusalsHaveCauses wrong.no_count → ⊥
no-count-refused h =
    elim (h (take 12 funcs_file) (fault.Form 12) file (ap wrong.no_counts funcs-12)) [
      | inl headless ↦ headless.unspelled (let begins = left_filled.begins in begins.header)
      | inr other ↦ elim other [
        | inl stuck ↦ none_stuck (take 12 funcs_file) left_filled stuck
        | inr lacking ↦ let same : fault.Form 12 ≡ fault.Count 12 = lacking.1 in absurd cc
      ]
    ]
  where
    file : IsFile (take 12 funcs_file)
    file = record { bytes = bytes_by (take 12 funcs_file) refl; small = omega arith }
