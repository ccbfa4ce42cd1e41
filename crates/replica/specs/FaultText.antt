-- Faults as the model has them, and how they are printed: a fault's name, and its fields in order, each after a space.
use Rattle.std.specs.Prelude.{ℕ, List, ◌++◌, codes}
use Rattle.cbor_det.specs.FaultText.{fault_text}
use Rattle.op_grammar.specs.Rules.{rule_of, rule_name}
use Rattle.model.specs.File.{FileFault, encoding, breaks, trailing}
use Rattle.model.specs.Held as held
use Rattle.model.specs.Text.{field}
use Rattle.replica.specs.declared.fault.BadFile.{BadFile}
use Rattle.replica.specs.declared.fault.BadFile.TheVariants as bad
use Rattle.replica.specs.declared.fault.MemberFault.{MemberFault}
use Rattle.replica.specs.declared.fault.MemberFault.TheVariants.{NoMember, NotHeld, Held, Nobody}
use Rattle.replica.specs.declared.fault.Misfit.{Misfit}
use Rattle.replica.specs.declared.fault.Misfit.TheVariants.{A0, A1, A2, A3, A4}

abbrev pub fault_of : BadFile → FileFault
fault_of (bad.Cbor fault) = encoding fault
fault_of (bad.Rule item rule) = breaks item (rule_of rule)
fault_of (bad.Trailing at) = trailing at

abbrev pub bad_file_text : BadFile → List ℕ
bad_file_text (bad.Cbor fault) = codes "Cbor " ++ fault_text fault
bad_file_text (bad.Rule item rule) = codes "Rule" ++ (field item ++ (codes " " ++ rule_name rule))
bad_file_text (bad.Trailing at) = codes "Trailing" ++ field at

abbrev pub member_fault_text : MemberFault → List ℕ
member_fault_text (NoMember member n) = codes "NoMember" ++ (field member ++ field n)
member_fault_text (NotHeld member) = codes "NotHeld" ++ field member
member_fault_text (Held member) = codes "Held" ++ field member
member_fault_text Nobody = codes "Nobody"

abbrev pub misfit_of : Misfit → held.Misfit
misfit_of (A0 of cause count) = held.lacks_cause of cause count
misfit_of (A1 time last) = held.not_later time last
misfit_of (A2 of cause before) = held.forgets of cause before
misfit_of (A3 of cause_time time) = held.before_cause of cause_time time
misfit_of (A4 op id) = held.refers_wrongly op id
