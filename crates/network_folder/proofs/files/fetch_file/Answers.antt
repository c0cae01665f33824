use Rattle.std.proofs.Common.{ap, ◌∙◌}
use Rattle.std.specs.Prelude.{Err}
use Rattle.whole_files.specs.declared.fetching.FetchError.TheVariants.{Size}
use Rattle.network_folder.proofs.OneFile.{kept, long_file}
use Rattle.network_folder.proofs.files.fetch_file.Goals as goal

pub returns-in-Err-Size : goal.returns-in-Err-Size
returns-in-Err-Size g c =
    let is = c.in-Err-Size.is ∙ ap (λ x. Err x) c.in-Err-Size.field-0-is in
    rw c.refused.ensures
    (long_file g.H.Shelf c.args.shelf.now c.fetch.new.shelf c.args.digest.now c.args.digest.now c.args.file c.args.limit c.args.name.now (λ v. v.items) (c.fetch.ensures.size is)
    (kept Size c.fetch.result is (λ e. absurd (cc e)) c.fetch.ensures.unblamed) c.fetch.ensures.holds c.fetch.ensures.others)
