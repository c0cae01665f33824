use Rattle.std.proofs.Common.{rules, ◌≡◌, ◌++◌, ◌∷◌, decimal, flat_map, ap, sym, ◌∙◌, append_assoc}
use Rattle.log_specs.specs.Line.{numbers_text}
use Rattle.log_lines.specs.Commas.{behind_comma}
use Rattle.log_lines.proofs.Texts.{numbers_text-first}
use Rattle.log_lines.proofs.printing.push_numbers.Goals as goal

pub returns : goal.returns
returns c =
    let old = c.args.text.now.items in
    let n = c.in-Some.first.now in
    let ns = c.in-Some.rest.now in
    let whole : c.args.numbers.now ≡ n ∷ ns = search rules in
    let first : c.push_number.new.text.items ≡ old ++ 32 ∷ decimal n = search rules in
    let written : c.push_others.new.text.items ≡ c.push_number.new.text.items ++ flat_map behind_comma ns = search rules in
    written ∙ ap (λ t. t ++ flat_map behind_comma ns) first ∙ append_assoc old (32 ∷ decimal n) (flat_map behind_comma ns)
    ∙ ap (λ t. old ++ 32 ∷ t) (sym (numbers_text-first n ns)) ∙ ap (λ xs. old ++ 32 ∷ numbers_text xs) (sym whole)
