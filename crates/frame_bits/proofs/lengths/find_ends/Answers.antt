use Rattle.std.proofs.Common.{rules, ◌≡◌, ◌∙◌, [], ◌+◌, ◌++◌, ℕ, ap, refl, length}
use Rattle.frame_specs.specs.Bits.{bytes_bits}
use Rattle.frame_specs.specs.Frame.{Frame, Kind}
use Rattle.frame_specs.specs.Wire.{body_bits, field_bits, stuff_open, stuffed, stuffed_as}
use Rattle.frame_bits.proofs.Whole.{raw-parts, stuffed-parts}
use Rattle.frame_bits.proofs.lengths.find_ends.Goals as goal

pub returns-clause-head : goal.returns-clause-head
returns-clause-head c =
    c.count-head.ensures.written _ (c.packed.ensures.took [] c.new-counter.ensures.took) ∙ ap (λ bits. length (stuff_open bits)) c.head_bits.ensures.value

pub returns-clause-stuffed : goal.returns-clause-stuffed
returns-clause-stuffed c =
    let f = c.args.f.now in
    let took = c.bytes-2.ensures.took _ (c.packed-2.ensures.took _ (c.packed.ensures.took [] c.new-counter.ensures.took)) in
    let bytes_is : c.as_slice-bytes.result.now ≡ f.bytes = search rules in
    let parts = raw-parts f c.head_bits.result c.control_bits.result c.as_slice-bytes.result.now c.head_bits.ensures.value c.control_bits.ensures.value bytes_is in
    let bits = (c.head_bits.result ++ c.control_bits.result) ++ bytes_bits c.as_slice-bytes.result.now in
    c.close-stuffed.ensures.count bits took ∙ ap (λ k. length (stuffed_as k bits)) c.kind-kind.ensures.value ∙ ap length (stuffed-parts f bits parts)

body-parts : (f : Frame) (kind : Kind) (stuffed_len field_len size : ℕ) → stuffed_len ≡ length (stuffed f) → field_len ≡ field_bits kind size
    → kind ≡ f.kind → size ≡ length f.bytes → stuffed_len + field_len ≡ body_bits f
body-parts f kind stuffed_len field_len size e1 e2 e3 e4 = rw (e1, e2, e3, e4) refl

pub returns-clause-body : goal.returns-clause-body
returns-clause-body c =
    let f = c.args.f.now in
    let bytes_is : c.as_slice-bytes.result.now ≡ f.bytes = search rules in
    body-parts f _ _ _ _ (returns-clause-stuffed c) c.crc_field.ensures.exact c.kind-kind.ensures.value (ap length bytes_is)
