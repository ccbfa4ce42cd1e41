-- What the code makes of the bytes of a file is what the command means over them.
use Rattle.std.proofs.Common.{◌≡◌, ℕ, List, [], Result, Ok, Err, refl, sym, subst}
use Rattle.model.specs.File.{Kind}
use Rattle.model.specs.Command.{Command, found, edit, ack, show, status, log, bundle_since, deliver, trim, snapshot_of, release, begin_from, check, items}
use Rattle.outline_words.specs.Table.{Order, command, play, sample}
use Rattle.outline_meaning.specs.declared.status.Status.{Status}
use Rattle.outline_meaning.specs.Scope.{taken_order}
use Rattle.outline_meaning.specs.Outcome.{Outcome}
use Rattle.outline_meaning.specs.Meaning.{roles, Loaded, Loads, read, input_bytes, file_of, delivered_to, order_made, Answer, answered, member_files, based_files, all_files}
use Rattle.outline_cmd.specs.Tasks.{over, order_made_of}
use Rattle.outline_meaning.proofs.MeaningLaws.{read_is}

-- ---- over the loads of a command

-- What a command that is taken makes of the bytes of its file is what it makes where they are loaded.
over_loads : (order : Order) (loads : Loads) (bytes : List ℕ) → input_bytes (roles order).input loads.input ≡ Ok bytes → taken_order order ≡ Ok tt → (o : Result Outcome Status) → order_made (over bytes loads.second) order o → order_made loads order o
over_loads (command (found document n name)) loads bytes is taken o made = made
over_loads (command (edit name e)) loads bytes is taken o made =
    subst (λ (load : Loaded). order_made (record loads { input = load }) (command (edit name e)) o) (sym (read_is 1 loads.input bytes (sym is)).0) made
over_loads (command (ack name)) loads bytes is taken o made =
    subst (λ (load : Loaded). order_made (record loads { input = load }) (command (ack name)) o) (sym (read_is 1 loads.input bytes (sym is)).0) made
over_loads (command (show name)) loads bytes is taken o made =
    subst (λ (load : Loaded). order_made (record loads { input = load }) (command (show name)) o) (sym (read_is 1 loads.input bytes (sym is)).0) made
over_loads (command (bundle_since name vector out)) loads bytes is taken o made =
    subst (λ (load : Loaded). order_made (record loads { input = load }) (command (bundle_since name vector out)) o) (sym (read_is 1 loads.input bytes (sym is)).0) made
over_loads (command (deliver name offered)) loads bytes is taken o made =
    subst (λ (load : Loaded). order_made (record loads { input = load }) (command (deliver name offered)) o) (sym (read_is 1 loads.input bytes (sym is)).0) made
over_loads (command (items name)) loads bytes is taken o made =
    subst (λ (load : Loaded). order_made (record loads { input = load }) (command (items name)) o) (sym (read_is 1 loads.input bytes (sym is)).0) made
over_loads _ loads bytes is taken o made = absurd cc

-- What is made of the bytes is what is meant.
pub made_means : (order : Order) (loads : Loads) (bytes : List ℕ) → input_bytes (roles order).input loads.input ≡ Ok bytes → taken_order order ≡ Ok tt
    → (a : Answer) → order_made_of order bytes loads.second (Ok a) → (o : Outcome) × order_made loads order (Ok o) × (answered (roles order) o ≡ a)
made_means order loads bytes is taken a (Ok o, made, same) = (o, over_loads order loads bytes is taken (Ok o) made, cc)
made_means order loads bytes is taken a (Err refusal, made, same) = absurd cc

pub refusal_means : (order : Order) (loads : Loads) (bytes : List ℕ) → input_bytes (roles order).input loads.input ≡ Ok bytes → taken_order order ≡ Ok tt
    → (refusal : Status) → order_made_of order bytes loads.second (Err refusal) → order_made loads order (Err refusal)
refusal_means order loads bytes is taken refusal (Ok o, made, same) = absurd cc
refusal_means order loads bytes is taken refusal (Err other, made, same) =
    let e : other ≡ refusal = cc in
    subst (λ q. order_made loads order (Err q)) e (over_loads order loads bytes is taken (Err other) made)

-- ---- the second file

delivered_read : (loads : Loads) (o : Outcome) → delivered_to loads (Ok o) → (bytes : List ℕ) × (Ok bytes ≡ read 2 loads.second)
delivered_read loads o (Ok f, opens, (Ok offered, (Ok bytes, reads, rest), made)) = (bytes, reads)
delivered_read loads o (Ok f, opens, (Ok offered, (Err refusal, reads, rest), made)) = absurd cc
delivered_read loads o (Ok f, opens, (Err refusal, is, rest)) = absurd cc
delivered_read loads o (Err refusal, opens, rest) = absurd cc

-- Where something is made, the second file was read, if there is one.
pub second_read : (order : Order) (loads : Loads) (o : Outcome) → order_made loads order (Ok o) → (bytes : List ℕ) × (Ok bytes ≡ input_bytes (roles order).second loads.second)
second_read (command (deliver name offered)) loads o made = delivered_read loads o made
second_read _ loads o made = ([], refl)

-- ---- a load that brings nothing to read

-- the first step of what reads a file
file_unread : (kinds : List Kind) (load : Loaded) (refusal : Status) → read 1 load ≡ Err refusal → file_of 1 kinds load (Err refusal)
file_unread kinds load refusal is = (Err refusal, sym is, refl)

command_unread : (c : Command) (loads : Loads) (refusal : Status) → input_bytes (roles (command c)).input loads.input ≡ Err refusal → order_made loads (command c) (Err refusal)
command_unread (found document n name) loads refusal is = absurd cc
command_unread (edit name e) loads refusal is = (Err refusal, file_unread member_files loads.input refusal is, refl)
command_unread (ack name) loads refusal is = (Err refusal, file_unread member_files loads.input refusal is, refl)
command_unread (show name) loads refusal is = (Err refusal, file_unread based_files loads.input refusal is, refl)
command_unread (status name) loads refusal is = (Err refusal, file_unread based_files loads.input refusal is, refl)
command_unread (log name) loads refusal is = (Err refusal, file_unread all_files loads.input refusal is, refl)
command_unread (bundle_since name vector out) loads refusal is = (Err refusal, file_unread member_files loads.input refusal is, refl)
command_unread (deliver name offered) loads refusal is = (Err refusal, file_unread member_files loads.input refusal is, refl)
command_unread (trim name) loads refusal is = (Err refusal, file_unread member_files loads.input refusal is, refl)
command_unread (snapshot_of name out) loads refusal is = (Err refusal, file_unread member_files loads.input refusal is, refl)
command_unread (release name m) loads refusal is = (Err refusal, file_unread member_files loads.input refusal is, refl)
command_unread (begin_from source m name) loads refusal is = (Err refusal, file_unread based_files loads.input refusal is, refl)
command_unread (check name) loads refusal is = (Err refusal, file_unread all_files loads.input refusal is, refl)
command_unread (items name) loads refusal is = (Err refusal, sym is, refl)

-- What isn't read is refused so, whatever the order is.
pub unread_means : (order : Order) (loads : Loads) (refusal : Status) → input_bytes (roles order).input loads.input ≡ Err refusal → order_made loads order (Err refusal)
unread_means (command c) loads refusal is = command_unread c loads refusal is
unread_means (play name) loads refusal is = (Err refusal, sym is, refl)
unread_means (sample seed size name) loads refusal is = absurd cc
