use Rattle.outline_words.proofs.OrderForms.{in_form}
use Rattle.outline_words.proofs.laws.orders_are_in_form.Goals as goal

pub returns : goal.returns
returns c = in_form
