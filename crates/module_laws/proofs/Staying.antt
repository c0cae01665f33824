-- Faults stay with their section.
use Rattle.std.proofs.Common.{◌≡◌, Ok, Err, refl, sym, ◌∙◌}
use Rattle.leb_bytes.proofs.Spelled.{IsBytes, bytes_of_all}
use Rattle.module_specs.specs.ModuleSpelling.{Section, Before, start}
use Rattle.module_specs.specs.Fronts.{after_all}
use Rattle.module_specs.specs.Reading.{Read}
use Rattle.module_specs.specs.ModuleReading.{section_at, module_read}
use Rattle.module_specs.proofs.Sections.{section_here}
use Rattle.module_specs.proofs.Cuts.{same_fault}
use Rattle.module_laws.specs.Readings.{FaultsStay}
use Rattle.module_laws.proofs.Determined.{tell}

pub stay : FaultsStay module_read
stay b c stop e file other broken agree h = by_section (section_at s b broken.at) refl
  where
    s : Before
    s = after_all broken.stuck.sections start

    fits : IsBytes b
    fits = bytes_of_all b file.bytes

    by_section : (r : Read Section) → section_at s b broken.at ≡ r → module_read c ≡ Err e
    by_section (Ok p) is =
        let x = section_here tell s b fits broken.at p.1 p.0 is in
        absurd (broken.stuck.unspelled p.0 x.0 p.1 x.1 x.3)
    by_section (Err d) is =
        let own : module_read b ≡ Err d = same_fault tell b b fits broken.stuck.sections broken.at stop d broken.stuck.before broken.states broken.inside is file.small broken.inside refl in
        let others : module_read c ≡ Err d = same_fault tell b c fits broken.stuck.sections broken.at stop d broken.stuck.before broken.states broken.inside is other.small agree.in_second (sym agree.same) in
        others ∙ sym own ∙ h
