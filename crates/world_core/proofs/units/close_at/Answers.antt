use Rattle.std.proofs.Common.{◌≡◌, ◌<◌, Some, slice_get, slice_set, ap, sym, ◌∙◌, arith}
use Rattle.std.proofs.lemmas.Option.{slice_get_read}
use Rattle.world_core.specs.Units.{states_of}
use Rattle.world_core.proofs.Counting.{parts-set}
use Rattle.world_core.proofs.Moved.{apart-stays, state-at, states-set}
use Rattle.world_core.proofs.units.close_at.Goals as goal

pub returns-clause-closed : goal.returns-clause-closed
returns-clause-closed g c =
    let inside : c.args.place < _ = omega (arith, c.requires.there, c.args.ecus.now.ok.0) in
    let at : slice_get c.args.ecus.now.items c.args.place ≡ Some c.index_mut-ecu.result.now = slice_get_read _ _ _ _ c.args.ecus.now.ok.0 inside c.index_mut-ecu.ensures.value in
    let came = c.in_ok-end.ensures.close in
    record {
      state = g.E.Ecu.state c.index_mut-ecu.result.now c.args.shared.now;
      here = state-at g.E.Ecu c.args.ecus.now.items c.args.shared.now c.args.place c.index_mut-ecu.result.now at;
      came = ap (λ p. p.0) came;
      behind = states-set g.E.Ecu g.met.E.Ecu.in_by_parts g.met.E.Ecu.state_by_parts _ _ _ _ _ _ c.requires.apart at c.close.ensures.apart.others
          ∙ ap (λ p. slice_set (states_of g.E.Ecu c.args.ecus.now.items c.args.shared.now) c.args.place p.1) (sym came);
      phase = ap (λ p. g.E.Ecu.phase_of p.1) came ∙ c.in_ok-end.ensures.phase;
    }

pub returns-clause-apart : goal.returns-clause-apart
returns-clause-apart g c =
    let inside : c.args.place < _ = omega (arith, c.requires.there, c.args.ecus.now.ok.0) in
    let at : slice_get c.args.ecus.now.items c.args.place ≡ Some c.index_mut-ecu.result.now = slice_get_read _ _ _ _ c.args.ecus.now.ok.0 inside c.index_mut-ecu.ensures.value in
    apart-stays g.E.Ecu g.met.E.Ecu.in_by_parts g.met.E.Ecu.state_by_parts _ _ _ _ _ _ c.requires.apart at c.close.ensures.apart.others c.in_ok-end.ensures.apart.parts c.in_ok-end.ensures.apart.here

pub returns-clause-parts : goal.returns-clause-parts
returns-clause-parts g c =
    let inside : c.args.place < _ = omega (arith, c.requires.there, c.args.ecus.now.ok.0) in
    let at : slice_get c.args.ecus.now.items c.args.place ≡ Some c.index_mut-ecu.result.now = slice_get_read _ _ _ _ c.args.ecus.now.ok.0 inside c.index_mut-ecu.ensures.value in
    parts-set g.E.Ecu.parts c.args.ecus.now.items c.args.place c.index_mut-ecu.result.now _ at c.in_ok-end.ensures.apart.parts
