-- What the kinds of a frame stand for.
use Rattle.frame_specs.specs.Frame as model
use Rattle.can_frame.specs.declared.frame.Kind.{Kind}
use Rattle.can_frame.specs.declared.frame.Kind.TheVariants.{Data, Remote, Fd}

-- the kind that is meant
abbrev pub kind_of : Kind → model.Kind
kind_of Data = model.Data
kind_of Remote = model.Remote
kind_of (Fd brs esi) = model.Fd brs esi
