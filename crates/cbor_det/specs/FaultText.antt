-- How a fault is printed.
use Rattle.std.specs.Prelude.{ℕ, List, ◌++◌, codes, decimal}
use Rattle.cbor_det.specs.declared.fault.Why.{Why}
use Rattle.cbor_det.specs.declared.fault.Why.TheVariants.{Reserved, Indefinite, OutOfProfile, Ended, NotShortest, TooDeep, BadText, KeyOrder, OtherType}
use Rattle.cbor_det.specs.declared.fault.CborFault.{CborFault}

abbrev pub why_name : Why → List ℕ
why_name Reserved = codes "Reserved"
why_name Indefinite = codes "Indefinite"
why_name OutOfProfile = codes "OutOfProfile"
why_name Ended = codes "Ended"
why_name NotShortest = codes "NotShortest"
why_name TooDeep = codes "TooDeep"
why_name BadText = codes "BadText"
why_name KeyOrder = codes "KeyOrder"
why_name OtherType = codes "OtherType"

-- Its place, and what is wrong there.
abbrev pub fault_text : CborFault → List ℕ
fault_text f = decimal f.at ++ (codes " " ++ why_name f.why)
