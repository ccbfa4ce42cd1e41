use Rattle.std.proofs.Common.{◌≡◌, ◌∙◌, ap, ℕ, zero, suc, List, [], ◌∷◌, drop, slice_get, take, refl}
use Rattle.op_ids.specs.declared.OpId.{OpId}
use Rattle.model.specs.View.{live_characters}
use Rattle.fugue_text.specs.Texts.{document_of}
use Rattle.fugue_text.proofs.texts.Texts.id_at.Goals as goal

first_there : (ids : List OpId) (i : ℕ) → slice_get (take 1 (drop i ids)) 0 ≡ slice_get ids i
first_there [] zero = refl
first_there [] (suc i) = refl
first_there (x ∷ ids) zero = refl
first_there (x ∷ ids) (suc i) = first_there ids i

pub returns : goal.returns
returns c =
    c.copied.ensures ∙ c.first.ensures.value ∙ ap (λ (ids : List OpId). slice_get ids 0) (c.deref.ensures.value ∙ c.in_ok-ids.ensures)
    ∙ first_there (live_characters (document_of c.args.self.now) c.args.node) c.args.i
