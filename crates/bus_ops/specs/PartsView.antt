-- The frame that the parts of one would make. No public clause cites this module.
use Rattle.frame_specs.specs.Frame.{Frame}
use Rattle.can_frame.specs.Kinds.{kind_of}
use Rattle.bus_ops.specs.declared.fields.Parts.{Parts}

abbrev pub frame_of : Parts → Frame
frame_of p = record { id = p.id; ext = p.ext; kind = kind_of p.kind; bytes = p.data.now }
