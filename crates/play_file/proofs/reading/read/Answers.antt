use Rattle.std.proofs.Common.{Some, None, Ok, sym, ap, ◌∙◌}
use Rattle.std.proofs.lemmas.Result.{err_from_is_err_and}
use Rattle.play_file.proofs.Walked.{no_header, header_decides, Names-same, is_play}
use Rattle.play_file.proofs.reading.read.Goals as goal

pub returns-in_default-clause-fault : goal.returns-in_default-clause-fault
returns-in_default-clause-fault c = no_header c.args.bytes.now c.in_default.ensures

pub returns-in_default-read_header-clause-fault : goal.returns-in_default-read_header-clause-fault
returns-in_default-read_header-clause-fault c = header_decides c.args.bytes.now c.in-Some.line.now c.in-Some.rest.now None c.in-Some.ensures c.in_default-read_header.ensures

pub returns-in_err-draft-clause-fault : goal.returns-in_err-draft-clause-fault
returns-in_err-draft-clause-fault c =
    let p = err_from_is_err_and c.from_residual.result c.from_residual.ensures.1 in
    let whole = header_decides c.args.bytes.now c.in-Some.line.now c.in-Some.rest.now (Some c.in-Some-read_header.header) c.in-Some.ensures c.in-Some-read_header.ensures in
    rw (p.1, p.2) (Names-same c.in_err-draft.field-0.0 _ _ whole c.in_err-draft.ensures.fault)

pub into_play-requires : goal.into_play-requires
into_play-requires c =
    (is_play c.args.bytes.now c.in_ok-draft.draft
    (header_decides c.args.bytes.now c.in-Some.line.now c.in-Some.rest.now (Some c.in-Some-read_header.header) c.in-Some.ensures c.in-Some-read_header.ensures ∙ c.in_ok-draft.ensures.found)).0

pub returns-clause-found : goal.returns-clause-found
returns-clause-found c =
    header_decides c.args.bytes.now c.in-Some.line.now c.in-Some.rest.now (Some c.in-Some-read_header.header) c.in-Some.ensures c.in-Some-read_header.ensures
    ∙ c.in_ok-draft.ensures.found ∙ ap Ok (sym c.into_play.ensures)
