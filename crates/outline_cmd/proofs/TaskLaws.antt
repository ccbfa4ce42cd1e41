-- What tasks do is taken.
use Rattle.std.proofs.Common.{◌≡◌, Ok, refl}
use Rattle.outline_words.specs.Table.{Order}
use Rattle.outline_cmd.specs.declared.scope.Task.{Task}
use Rattle.outline_cmd.specs.declared.scope.Task.TheVariants as t
use Rattle.outline_meaning.specs.Scope.{taken_order}
use Rattle.outline_cmd.specs.Tasks.{Tells, Does}

tells_taken : (task : Task) (order : Order) → Tells task order → taken_order order ≡ Ok tt
tells_taken (t.Found document members name) order same = rw same refl
tells_taken (t.Edit name words) order (e, says, same) = rw same refl
tells_taken (t.Ack name) order same = rw same refl
tells_taken (t.Show name) order same = rw same refl
tells_taken (t.Items name) order same = rw same refl
tells_taken (t.Bundle name vector new_name) order same = rw same refl
tells_taken (t.Deliver name offered) order same = rw same refl

pub does_taken : (task : Task) (order : Order) → Does task order → taken_order order ≡ Ok tt
does_taken task order does = tells_taken task order does.tells
