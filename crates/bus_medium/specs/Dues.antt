-- How what is due of the code is read as one of the definitions. Public clauses cite this file.
use Rattle.bus_specs.specs.Due as model
use Rattle.bus_medium.specs.declared.due.Due.{Due}
use Rattle.bus_medium.specs.declared.due.What.{What}
use Rattle.bus_medium.specs.declared.due.What.TheVariants.{Finish, Return, Notices, Start}

abbrev pub what_of : What → model.What
what_of Finish = model.Finish
what_of (Return node) = model.Return node
what_of Notices = model.Notices
what_of Start = model.Start

abbrev pub due_of : Due → model.Due
due_of d = record { moment = d.moment; what = what_of d.what }
