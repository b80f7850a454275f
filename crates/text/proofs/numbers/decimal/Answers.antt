use Rattle.text.proofs.DecimalLaw.{whole, longer, faulty}
use Rattle.text.proofs.numbers.decimal.Goals as goal

pub returns-in_default : goal.returns-in_default
returns-in_default c = faulty c.args.line.now c.number.new.self.at c.in_default.field-0 c.in_default.ensures.read

pub returns-in-Ok-end : goal.returns-in-Ok-end
returns-in-Ok-end c = whole c.args.line.now c.number.new.self.line.now c.number.new.self.at c.in-Ok.value c.number.ensures.line c.in-Ok.ensures.read c.in-Ok-end.ensures

pub returns-in-Err : goal.returns-in-Err
returns-in-Err c = longer c.args.line.now c.number.new.self.line.now c.number.new.self.at c.in-Ok.value c.number.ensures.line c.in-Ok.ensures.read c.in-Err.ensures.0
