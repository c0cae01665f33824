-- Worked intervals, computed: at 1,000,000 ticks a second, in a session at moment 500.
use Rattle.std.specs.Prelude.{◌≡◌, None, Some, true, refl}
use Rattle.fmi_states.specs.declared.reply.Qualifier.TheVariants.{NotYetKnown, Unchanged, Changed}
use Rattle.fmi_states.specs.declared.reply.Reply.TheVariants.{Updated}
use Rattle.fmi_states.specs.declared.status.FmiStatus.TheVariants.{Ok}
use Rattle.session_specs.specs.Outcome.{Keep, Clear, At}
use Rattle.session_specs.specs.Replies.{change_by, scaled_interval, wish_of, TheEnd}

three_milliseconds : change_by 500 1000000 3 1000 Changed ≡ Some (At 3500)
three_milliseconds = refl

third_of_a_second : change_by 500 1000000 1 3 Changed ≡ None
third_of_a_second = refl

no_tick : change_by 500 1000000 0 1000 Changed ≡ None
no_tick = refl

no_resolution : change_by 500 1000000 3 0 Changed ≡ None
no_resolution = refl

-- counter and resolution count only where the interval changed
unchanged_without_resolution : change_by 500 1000000 3 0 Unchanged ≡ Some Keep
unchanged_without_resolution = refl

unknown_without_resolution : change_by 500 1000000 0 0 NotYetKnown ≡ Some Clear
unknown_without_resolution = refl

-- the longest interval, and one that is too long
longest : scaled_interval 0x4000000000000000 1 1 ≡ Some 0x4000000000000000
longest = refl

too_long : scaled_interval 0x4000000000000001 1 1 ≡ None
too_long = refl

-- a unit that asks for the end and for another update ends
end_and_another_update : wish_of (Updated Ok true true) ≡ TheEnd
end_and_another_update = refl
