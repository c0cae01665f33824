-- The area of a guest is in its memory from its instantiation on, and its store stays one that its code may have.
use Rattle.std.proofs.Common.{◌≡◌, refl, sym, subst}
use Rattle.std.specs.Prelude.{IsTrue}
use Rattle.fmi_states.specs.declared.phase.Phase.{Phase}
use Rattle.fmi_states.specs.declared.phase.Phase.TheVariants.{Fresh, Instantiated, Init, Event, Step, Terminated, Failed, Gone}
use Rattle.fmi_states.specs.declared.status.FmiStatus.TheVariants as status
use Rattle.fmi_states.specs.declared.call.Call.{Call}
use Rattle.fmi_states.specs.declared.call.Call.TheVariants as call
use Rattle.fmi_states.specs.declared.reply.Reply.{Reply}
use Rattle.fmi_states.specs.declared.reply.Reply.TheVariants as reply
use Rattle.fmi_states.specs.Phase.{is_permitted, next_phase}
use Rattle.fmi_states.specs.Reply.{is_suitable}
use Rattle.wasm_types.specs.Modules.{NestedModule}
use Rattle.code_specs.specs.Stores.{pages}
use Rattle.binding_specs.specs.Guests.{Guest}
use Rattle.binding_specs.specs.Answers.{answer}
use Rattle.binding_laws.specs.Words.{HasArea}
use Rattle.binding_laws.proofs.Sound.{reply_suits, phase_moves}
use Rattle.binding_laws.proofs.Steady.{area_stays, area_is_placed, same_code}
use Rattle.guest_laws.specs.Words.{HasStore, IsPlaced}
use Rattle.guest_laws.proofs.Stores.{StoreSuits, to-suits, from-suits, store-stays}

pub in-any : (ph : Phase) (g : Guest) → HasArea g → IsPlaced ph g
in-any Fresh g h = tt
in-any Instantiated g h = h
in-any Init g h = h
in-any Event g h = h
in-any Step g h = h
in-any Terminated g h = h
in-any Failed g h = h
in-any Gone g h = tt

-- ---- one call

placed : (g : Guest) (r : Reply) → (answer g call.Instantiate).0 ≡ r → IsTrue (is_suitable call.Instantiate r)
    → IsPlaced (next_phase g.phase call.Instantiate r) (answer g call.Instantiate).1
placed g (reply.Plain status.Ok) e h = area_is_placed g status.Ok refl e
placed g (reply.Plain status.Warning) e h = area_is_placed g status.Warning refl e
placed g (reply.Plain status.Discard) e h = tt
placed g (reply.Plain status.Error) e h = tt
placed g (reply.Plain status.Fatal) e h = tt
placed g (reply.Broken why) e h = tt
placed g other e h = absurd (cc h)

first-area : (g : Guest) (c : Call) → IsTrue (is_permitted Fresh c) → IsPlaced (answer g c).1.phase (answer g c).1
first-area g call.Instantiate may = subst (λ (ph : Phase). IsPlaced ph (answer g call.Instantiate).1) (sym (phase_moves g call.Instantiate))
    (placed g (answer g call.Instantiate).0 refl (reply_suits g call.Instantiate))
first-area g c may = absurd (cc may)

pub call-area : (g : Guest) (c : Call) (ph : Phase) → IsTrue (is_permitted ph c) → IsPlaced ph g → IsPlaced (answer g c).1.phase (answer g c).1
call-area g c Fresh may h = first-area g c may
call-area g c Instantiated may h = in-any (answer g c).1.phase (answer g c).1 (area_stays g c h)
call-area g c Init may h = in-any (answer g c).1.phase (answer g c).1 (area_stays g c h)
call-area g c Event may h = in-any (answer g c).1.phase (answer g c).1 (area_stays g c h)
call-area g c Step may h = in-any (answer g c).1.phase (answer g c).1 (area_stays g c h)
call-area g c Terminated may h = in-any (answer g c).1.phase (answer g c).1 (area_stays g c h)
call-area g c Failed may h = in-any (answer g c).1.phase (answer g c).1 (area_stays g c h)
call-area g c Gone may h = absurd (cc may)

pub store-suited : (g : Guest) (c : Call) → HasStore g → HasStore (answer g c).1
store-suited g c h =
    let after = (answer g c).1 in
    to-suits after.code after.store (subst (λ (m : NestedModule). StoreSuits m after.store) (sym (same_code g c))
    (store-stays g c (from-suits g.code (pages g.store) g.store h)))
