use Rattle.fmi_binding.specs.Coming.{held, guest_with}
use Rattle.fmi_binding.proofs.Preparations.{unprepared, has_length, leaves_all}
use Rattle.fmi_binding.proofs.preparing.prepare.Goals as goal

pub returns-in_default : goal.returns-in_default
returns-in_default c = record {
  comes = λ phase s. unprepared (guest_with c.args.bound.now phase c.args.area s) c.args.call.now
      (held c.args.guests.now.pool c.args.instance.now c.args.area)
      c.requires.other (λ reference bytes e. c.in_default.not-SetBinary reference bytes e);
  few = has_length c.args.call.now (λ reference bytes e. c.in_default.not-SetBinary reference bytes e);
  leaves = leaves_all c.args.bound.now.code c.args.guests.now.pool c.args.instance.now c.requires.stands;
}
