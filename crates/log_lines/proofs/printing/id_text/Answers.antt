use Rattle.std.proofs.Common.{◌≡◌, List, ℕ, ◌∷◌, [], ◌/◌, ◌%◌, ◌^◌, IfOk, ◌∙◌, sym, ap, subst, refl}
use Rattle.std.proofs.lemmas.Nat.{and_mask}
use Rattle.frame_specs.specs.FrameText.{hex, hex_bytes}
use Rattle.log_lines.proofs.Texts.{hex_of_bytes}
use Rattle.log_lines.proofs.printing.id_text.Goals as goal

pub returns : goal.returns
returns c =
    let id = c.args.id in
    let items : c.of.result ≡ id / 2 ^ 24 ∷ id / 2 ^ 16 % 256 ∷ id / 2 ^ 8 % 256 ∷ id % 256 ∷ [] =
    c.of.ensures ∙ c.in_ok-to_vec.ensures.items_if_clones_equal (λ x y same. same)
    ∙ rw (and_mask (id / 2 ^ 16) 8, and_mask (id / 2 ^ 8) 8, and_mask id 8) refl in
    let text : hex_bytes c.of.result ≡ hex 8 id = ap hex_bytes items ∙ sym (hex_of_bytes id) in
    let P : List ℕ → Type 0 = λ t. IfOk c.print-2.result (λ v. v.items ≡ t) in subst P text c.print-2.ensures
