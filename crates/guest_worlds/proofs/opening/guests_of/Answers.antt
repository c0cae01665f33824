use Rattle.std.proofs.Common.{rules, ◌≡◌, ◌<◌, ◌+◌, ◌++◌, ◌∷◌, [], All, drop, length, get_or, sym, ap, ◌∙◌, subst}
use Rattle.fmi_binding.specs.contracts.wasm_ecu.WasmEcuEcu.TheImpl.{ghosts}
use Rattle.fmi_binding.specs.Laws.{same_state, same_place, is_there}
use Rattle.std.proofs.lemmas.List.{length-append}
use Rattle.fmi_binding.specs.Ecus.{opening_state, state_of}
use Rattle.world_core.specs.Units.{states_of}
use Rattle.guest_worlds.specs.Opening.{IsUnitCode, opening_states}
use Rattle.guest_worlds.proofs.Adding.{states-more, apart-more}
use Rattle.guest_worlds.proofs.Making.{all-rest, one-more}
use Rattle.guest_worlds.proofs.opening.guests_of.Goals as goal

pub loop-code-preserved : goal.loop-code-preserved
loop-code-preserved c =
    let i = c.loop-code.invariant in
    let e = c.in_ok-new.field-0 in
    let es = c.loop-code.ecus.items in
    let front : c.loop-code.left.items ≡ c.in-Some.code ∷ c.pop_front.new.self.items = search rules in
    let items : c.push.new.self.items ≡ es ++ e ∷ [] = c.in_ok-push.ensures.items in
    let n = c.index-nodes-len.result in
    let k = length es in
    let below : k < length c.args.nodes.now = search rules in
    let each : k + length c.loop-code.left.items ≡ length c.args.nodes.now = i.each in
    let here : n ≡ get_or c.args.nodes.now k n = search rules in
    let state : state_of e c.new.new.shared ≡ opening_state c.in-Some.code n.description c.args.fuel = search rules in
    let ss = states_of ghosts es c.loop-code.shared in
    record {
      states = rw items (
          ap (λ ss. ss ++ opening_states c.args.fuel c.pop_front.new.self.items (drop (length (es ++ e ∷ [])) c.args.nodes.now))
          (states-more ghosts same_place (λ e s t here shares. same_state e s t shares) is_there es e c.loop-code.shared c.new.new.shared i.apart c.in_ok-new.ensures.fresh c.in_ok-new.ensures.others)
          ∙ ap (λ x. (ss ++ x ∷ []) ++ opening_states c.args.fuel c.pop_front.new.self.items (drop (length (es ++ e ∷ [])) c.args.nodes.now)) state
          ∙ ap (λ m. (ss ++ opening_state c.in-Some.code n.description c.args.fuel ∷ []) ++ opening_states c.args.fuel c.pop_front.new.self.items (drop m c.args.nodes.now)) (length-append es (e ∷ []))
          ∙ one-more c.args.fuel c.in-Some.code c.pop_front.new.self.items c.args.nodes.now k n ss below here
          ∙ ap (λ ms. ss ++ opening_states c.args.fuel ms (drop k c.args.nodes.now)) (sym front)
          ∙ i.states);
      apart = rw items (apart-more ghosts same_place (λ e s t here shares. same_state e s t shares) is_there es e c.loop-code.shared c.new.new.shared i.apart c.in_ok-new.ensures.fresh c.in_ok-new.ensures.others c.in_ok-new.ensures.here);
      units = all-rest IsUnitCode c.in-Some.code c.pop_front.new.self.items (subst (All IsUnitCode) front i.units);
      each = search rules;
    }
