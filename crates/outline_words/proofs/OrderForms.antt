-- What words spell is in form, command by command.
use Rattle.std.proofs.Common.{List, ℕ}
use Rattle.outline_words.specs.Commands.{IsOrder}
use Rattle.outline_words.specs.Table.{Order, Spell}
use Rattle.outline_words.proofs.SpellLaws.{spelled_by_row}

pub in_form : (words : List (List ℕ)) (order : Order) → Spell words order → IsOrder order
in_form = spelled_by_row (λ words order. IsOrder order) (
  (λ id is n within file named. (is, within.0, within.1)),
  (
    (λ file a node b place c. tt),
    (
      (λ file a child b parent c place d. tt),
      (
        (λ file a child b. tt),
        (
          (λ file a node b key c value d. (c, d)),
          (
            (λ file a node b key c. c),
            (
              (λ file a node b place c text d. d),
              (
                (λ file a node b place c count d. tt),
                (
                  (λ file a node b place c value d. d),
                  (
                    (λ file a node b from c to d. tt),
                    (
                      (λ file a node b place c value d. d),
                      (
                        (λ file a node b place c. tt),
                        (
                          (λ file a. tt),
                          (
                            (λ file a. tt),
                            (
                              (λ file a. tt),
                              (
                                (λ file a. tt),
                                (
                                  (λ file a counts b made c. tt),
                                  (
                                    (λ file a other b. tt),
                                    (
                                      (λ file a. tt),
                                      (
                                        (λ file a made b. tt),
                                        (
                                          (λ file a member b. tt),
                                          (
                                            (λ file a member b made c. tt),
                                            (
                                              (λ file a. tt),
                                              (
                                                (λ file a. tt),
                                                (
                                                  (λ file a. tt),
                                                  ((λ seed a size b file c. tt), tt),
                                                ),
                                              ),
                                            ),
                                          ),
                                        ),
                                      ),
                                    ),
                                  ),
                                ),
                              ),
                            ),
                          ),
                        ),
                      ),
                    ),
                  ),
                ),
              ),
            ),
          ),
        ),
      ),
    ),
  ),
)
