-- The numbers and the lines of statuses.
use Rattle.std.specs.Prelude.{ℕ, List, [], ◌∷◌, ◌++◌, codes}
use Rattle.model.specs.Text.{field, misfit_text}
use Rattle.replica.specs.FaultText.{bad_file_text, member_fault_text, misfit_of}
use Rattle.doc_store.specs.FaultText.{edit_fault_text}
use Rattle.outline_meaning.specs.FaultText.{document_text}
use Rattle.outline_meaning.specs.declared.status.Status.{Status}
use Rattle.outline_meaning.specs.declared.status.Status.TheVariants as s

-- what the program's exit status says
abbrev pub number : Status → ℕ
number s.Done = 0
number (s.Words line word) = 1
number (s.Missing word) = 2
number (s.Exists word) = 3
number (s.ReadFault word) = 4
number s.WriteFault = 5
number s.SinkFault = 6
number (s.BadFile word why) = 7
number (s.TooLarge word bytes) = 8
number (s.OtherKind word kind) = 9
number (s.OtherDocument left right) = 10
number (s.Member fault) = 11
number (s.Edit fault word) = 12
number (s.ClockFull time member count) = 13
number (s.Trimmed member asked base) = 14
number (s.Unfit word member count misfit) = 15
number s.NoMemory = 16
number (s.NotBuilt word) = 17

-- the status's name, and its fields in order
abbrev pub title : Status → List ℕ
title s.Done = codes "Done"
title (s.Words line word) = codes "Words" ++ (field line ++ field word)
title (s.Missing word) = codes "Missing" ++ field word
title (s.Exists word) = codes "Exists" ++ field word
title (s.ReadFault word) = codes "ReadFault" ++ field word
title s.WriteFault = codes "WriteFault"
title s.SinkFault = codes "SinkFault"
title (s.BadFile word why) = codes "BadFile" ++ (field word ++ (codes " " ++ bad_file_text why))
title (s.TooLarge word bytes) = codes "TooLarge" ++ (field word ++ field bytes)
title (s.OtherKind word kind) = codes "OtherKind" ++ (field word ++ field kind)
title (s.OtherDocument left right) = codes "OtherDocument " ++ (document_text left ++ (codes " " ++ document_text right))
title (s.Member fault) = codes "Member " ++ member_fault_text fault
title (s.Edit fault word) = codes "Edit " ++ (edit_fault_text fault ++ field word)
title (s.ClockFull time member count) = codes "ClockFull" ++ (field time ++ (field member ++ field count))
title (s.Trimmed member asked base) = codes "Trimmed" ++ (field member ++ (field asked ++ field base))
title (s.Unfit word member count misfit) = codes "Unfit" ++ (field word ++ (field member ++ (field count ++ (codes " " ++ misfit_text (misfit_of misfit)))))
title s.NoMemory = codes "NoMemory"
title (s.NotBuilt word) = codes "NotBuilt" ++ field word

-- ended by a line feed
abbrev pub line : Status → List ℕ
line status = codes "outline: " ++ (title status ++ (10 ∷ []))
