use Rattle.emtp_deck_laws.proofs.WideSeries.{narrow_is_wide, wide_is_narrow}
use Rattle.emtp_deck_laws.proofs.cards.wide_series_card_has_the_narrow_values.Goals as goal

pub returns-clause-wide : goal.returns-clause-wide
returns-clause-wide c = narrow_is_wide

pub returns-clause-narrow : goal.returns-clause-narrow
returns-clause-narrow c = wide_is_narrow
