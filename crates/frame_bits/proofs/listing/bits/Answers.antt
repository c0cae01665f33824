use Rattle.std.proofs.Common.{◌≡◌, ◌++◌, ◌∙◌, [], List, Bool, ap, subst}
use Rattle.std.specs.Prelude.{IfOk}
use Rattle.frame_specs.specs.Bits.{bytes_bits}
use Rattle.frame_specs.specs.Wire.{stuffed_as}
use Rattle.frame_bits.proofs.Whole.{raw-parts, stuffed-parts}
use Rattle.frame_bits.proofs.listing.bits.Goals as goal

pub returns : goal.returns
returns c =
    let f = c.args.f.now in
    let lists = c.in_ok-bytes.ensures.lists _ (c.in_ok-packed-2.ensures.lists _ (c.in_ok-packed.ensures.lists [] c.new-lister.ensures.lists)) in
    let parts = raw-parts f c.head_bits.result c.control_bits.result c.data_bytes.result.now c.head_bits.ensures.value c.control_bits.ensures.value c.data_bytes.ensures.value in
    let bits = (c.head_bits.result ++ c.control_bits.result) ++ bytes_bits c.data_bytes.result.now in
    subst (λ (all : List Bool). IfOk c.close.result (λ list. list.items ≡ all))
    (ap (λ k. stuffed_as k bits) c.kind.ensures.value ∙ stuffed-parts f bits parts) (c.close.ensures bits lists)
