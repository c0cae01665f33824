-- Bodies are read as they are spelled.
use Rattle.module_specs.proofs.Sections.{BodiesTell}
use Rattle.wasm_code.proofs.Whole.{body_again, body_here}

pub tell : BodiesTell
tell = record {
  again = λ b f at next text s h. body_again b f at next text s h;
  here = λ b fits ty at next f le e. body_here b fits ty at next f le e;
}
