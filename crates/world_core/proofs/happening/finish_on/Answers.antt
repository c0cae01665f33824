use Rattle.std.proofs.Common.{slice_set, ap, ◌∙◌, arith}
use Rattle.bus_specs.specs.Bus.{Bus}
use Rattle.bus_specs.specs.Due.{Finish, at}
use Rattle.bus_specs.specs.Finish.{finish}
use Rattle.world_core.proofs.Numbered.{due-there, lines-are, read, set-is, within}
use Rattle.world_core.proofs.happening.finish_on.Goals as goal

pub index_mut-medium-requires : goal.index_mut-medium-requires
index_mut-medium-requires c =
    let l = within c.args.buses.now.items c.args.bus (at Finish c.args.now) c.requires.numbered c.requires.due in
    omega (arith, l, c.args.buses.now.ok.0)

pub finish-requires-clause-due : goal.finish-requires-clause-due
finish-requires-clause-due c =
    let here = read c.args.buses.now.items _ c.args.bus (at Finish c.args.now) c.index_mut-medium.result.now c.args.buses.now.ok.0 c.requires.numbered c.requires.due c.index_mut-medium.ensures.value in
    due-there c.args.buses.now.items c.args.bus (at Finish c.args.now) c.index_mut-medium.result.now c.requires.numbered c.requires.due here

pub returns-clause-state : goal.returns-clause-state
returns-clause-state c =
    let here = read c.args.buses.now.items _ c.args.bus (at Finish c.args.now) c.index_mut-medium.result.now c.args.buses.now.ok.0 c.requires.numbered c.requires.due c.index_mut-medium.ensures.value in
    ap (slice_set c.args.buses.now.items c.args.bus) c.in_ok-lines.ensures.state
    ∙ set-is (λ (b : Bus). finish b c.args.now) c.args.bus c.args.buses.now.items c.index_mut-medium.result.now c.requires.numbered here

pub returns-clause-lines : goal.returns-clause-lines
returns-clause-lines c =
    let here = read c.args.buses.now.items _ c.args.bus (at Finish c.args.now) c.index_mut-medium.result.now c.args.buses.now.ok.0 c.requires.numbered c.requires.due c.index_mut-medium.ensures.value in
    c.in_ok-lines.ensures.lines
    ∙ lines-are (λ (b : Bus). finish b c.args.now) c.args.bus c.args.buses.now.items c.index_mut-medium.result.now c.requires.numbered here
