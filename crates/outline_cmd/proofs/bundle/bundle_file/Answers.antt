use Rattle.std.proofs.Common.{refl}
use Rattle.std.proofs.lemmas.Result.{err_from_is_err_and}
use Rattle.outline_meaning.specs.Meaning.{member_files, reads_and_makes}
use Rattle.outline_meaning.specs.Outcome.{bundled}
use Rattle.outline_cmd.proofs.InputLaws.{input_refuses, input_follows}
use Rattle.outline_cmd.proofs.bundle.bundle_file.Goals as goal

pub returns-in_err-parts : goal.returns-in_err-parts
returns-in_err-parts c = λ name second.
    let p = err_from_is_err_and c.from_residual.result c.from_residual.ensures.1 in
    rw (p.1, p.2) (input_refuses (reads_and_makes name 3 c.args.new_name.now) member_files c.args.bytes.now second (bundled c.args.vector.now) c.in_err-parts.field-0.0 c.requires (c.in_err-parts.ensures.told member_files refl))

pub returns : goal.returns
returns c = λ name second.
    input_follows (reads_and_makes name 3 c.args.new_name.now) member_files c.args.bytes.now second (bundled c.args.vector.now) c.in_ok-parts.parts c.bundle_parts.result c.requires
    (c.in_ok-parts.ensures.told member_files refl) (c.bundle_parts.ensures name)
