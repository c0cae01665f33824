-- What a part of the code stands for. No public clause cites this file.
use Rattle.bus_specs.specs.Finish as model
use Rattle.bus_medium.specs.declared.part.Part.{Part}
use Rattle.bus_medium.specs.declared.part.Part.TheVariants.{Sending, Listening, Hurting, Apart}

abbrev pub part_of : Part → model.Part
part_of Sending = model.Sending
part_of Listening = model.Listening
part_of (Hurting kind) = model.Hurting kind
part_of Apart = model.Apart
