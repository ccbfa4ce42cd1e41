use Rattle.std.proofs.Common.{Ok, Err, refl}
use Rattle.outline_meaning.specs.declared.status.Status.TheVariants as s
use Rattle.outline_cmd.proofs.OpenLaws.{scan_is, scan_means}
use Rattle.outline_cmd.proofs.opened.scan.Goals as goal

pub returns-in-Ok-clause-told : goal.returns-in-Ok-clause-told
returns-in-Ok-clause-told c = scan_means c.args.word c.args.bytes.now c.in-Ok.parts c.requires c.in-Ok.ensures

pub returns-in-Ok-clause-is : goal.returns-in-Ok-clause-is
returns-in-Ok-clause-is c = scan_is c.args.bytes.now c.in-Ok.parts c.requires c.in-Ok.ensures

pub returns-in-Err-Bad-clause-told : goal.returns-in-Err-Bad-clause-told
returns-in-Err-Bad-clause-told c =
    let bad = rw c.in-Err-Bad.field-0-is at c.in-Err-Bad.ensures in
    (Ok tt, bad.1, (c.in-Err-Bad.why, refl, bad.0))

pub returns-in-Err-OtherBase-clause-told : goal.returns-in-Err-OtherBase-clause-told
returns-in-Err-OtherBase-clause-told c =
    let other = rw c.in-Err-OtherBase.field-0-is at c.in-Err-OtherBase.ensures in
    (Err (s.NotBuilt c.args.word), (refl, other), refl)
