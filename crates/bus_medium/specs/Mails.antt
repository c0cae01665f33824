-- What the mail of the code stands for. Public clauses cite this file.
use Rattle.bus_specs.specs.Bus as model
use Rattle.bus_medium.specs.declared.mail.Mail.{Mail}
use Rattle.bus_medium.specs.declared.mail.Mail.TheVariants.{Received, Confirm, BusError}

abbrev pub mail_of : Mail → model.Mail
mail_of (Received frame) = model.Received frame
mail_of (Confirm id) = model.Confirm id
mail_of (BusError id kind primary sender) = model.BusError id kind primary sender
