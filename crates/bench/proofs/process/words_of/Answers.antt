use Rattle.std.proofs.Common.{◌≡◌, sym, ap, ◌∙◌, subst, length, drop}
use Rattle.std.specs.Prelude.{Result, IfOk, String}
use Rattle.std.specs.declared.alloc.Global.{Global}
use Rattle.std.specs.declared.io.Error.{Error}
use Rattle.std.specs.declared.vec.IntoIter.{IntoIter}
use Rattle.std.specs.Vec.Iter.{into_iter_items, into_iter_len}
use Rattle.std.proofs.lemmas.Iterator.{items_from_collect}
use Rattle.std.proofs.lemmas.Iterator.Adapters.{YieldsList-from_vec, YieldsList-from_skip}
use Rattle.bench.proofs.process.words_of.Goals as goal

pub returns-in-Ok-clause-given : goal.returns-in-Ok-clause-given
returns-in-Ok-clause-given c =
    let all = c.in-Ok.all in
    let P : IntoIter (String Global) Global → Type 0 = λ all. into_iter_len all ≡ length (into_iter_items all) → IfOk c.collect.result (λ words. words.items ≡ drop 1 (into_iter_items all)) in
    subst (λ (r : Result (IntoIter (String Global) Global) Error). IfOk r P) (sym c.in-Ok.is)
    (λ same. items_from_collect _ c.collect.ensures.ran
    (YieldsList-from_skip 1 (YieldsList-from_vec (into_iter_items all) (ap into_iter_items c.skip.ensures.source) (ap into_iter_len c.skip.ensures.source ∙ same)) c.skip.ensures.count))
