use Rattle.std.proofs.Common.{rules, ◌≡◌, List, ℕ, [], ◌∷◌, codes, decimal, sym, subst, ap, ◌∙◌}
use Rattle.std.specs.Prelude.{OnOk}
use Rattle.bench_outside.specs.Pieces.{WritesAll}
use Rattle.bench_outside.specs.declared.refusal.FileId.{FileId}
use Rattle.bench_top.specs.Report.{why_text, line_pieces, refusal_pieces}
use Rattle.bench_top.proofs.reporting.write_refusal.Goals as goal

pub returns-in-Description-clause-line : goal.returns-in-Description-clause-line
returns-in-Description-clause-line g c =
    let refusal = c.args.refusal.now in
    let number : c.as_bytes-number.result.now ≡ decimal c.in-Description.number = search rules in
    let place : c.as_bytes-place.result.now ≡ decimal refusal.place = search rules in
    let at : c.as_bytes-at.result.now ≡ decimal refusal.at = search rules in
    let numbered : line_pieces (codes "refused" ∷ codes "description" ∷ c.as_bytes-number.result.now ∷ c.why_name-why.result.now
    ∷ c.as_bytes-place.result.now ∷ []) c.as_bytes-at.result.now
    ≡ line_pieces (codes "refused" ∷ codes "description" ∷ decimal c.in-Description.number ∷ why_text refusal.why ∷ decimal refusal.place
    ∷ []) (decimal refusal.at) =
    ap (λ (text : List ℕ). line_pieces (codes "refused" ∷ codes "description" ∷ text ∷ c.why_name-why.result.now
    ∷ c.as_bytes-place.result.now ∷ []) c.as_bytes-at.result.now) number
    ∙ ap (λ (text : List ℕ). line_pieces (codes "refused" ∷ codes "description" ∷ decimal c.in-Description.number ∷ text
    ∷ c.as_bytes-place.result.now ∷ []) c.as_bytes-at.result.now) c.why_name-why.ensures
    ∙ ap (λ (text : List ℕ). line_pieces (codes "refused" ∷ codes "description" ∷ decimal c.in-Description.number ∷ why_text refusal.why
    ∷ text ∷ []) c.as_bytes-at.result.now) place
    ∙ ap (λ (text : List ℕ). line_pieces (codes "refused" ∷ codes "description" ∷ decimal c.in-Description.number ∷ why_text refusal.why
    ∷ decimal refusal.place ∷ []) text) at in
    let line = subst (λ (pieces : List (List ℕ)). OnOk c.write_line-in-Description.result
    (WritesAll g.R.Sink c.args.report.now c.write_line-in-Description.new.report pieces))
    numbered c.write_line-in-Description.ensures.line in
    subst (λ (file : FileId). OnOk c.write_line-in-Description.result
    (WritesAll g.R.Sink c.args.report.now c.write_line-in-Description.new.report (refusal_pieces (record refusal { file = file }))))
    (sym c.in-Description.is) line
