-- How an event of the code is read as one of the definitions. Public clauses cite this file.
use Rattle.world_specs.specs.Next as model
use Rattle.world_core.specs.declared.event.Event.{Event}
use Rattle.world_core.specs.declared.event.What.{What}
use Rattle.world_core.specs.declared.event.What.TheVariants.{Finish, Return, Sessions, Start}

abbrev pub what_of : What → model.What
what_of (Finish bus) = model.Finish bus
what_of (Return bus node) = model.Return bus node
what_of Sessions = model.Sessions
what_of (Start bus) = model.Start bus

abbrev pub event_of : Event → model.Event
event_of e = record { moment = e.moment; what = what_of e.what }
