-- A page that stays where it was keeps its translations.
use Rattle.std.proofs.Common.{◌/◌}
use Rattle.sb_shows.proofs.Bytes.{place_led}
use Rattle.sb_shows.proofs.InPlace.{placed_still}
use Rattle.sb_sub.specs.Translations.{TranslationsKept}

pub translations_kept : TranslationsKept
translations_kept placement placement' thread index state state' core core' sees sees' stays access linear place leads =
    placed_still placement placement' state state' thread index linear access _ _ place (stays (linear / 4096))
    (place_led placement thread index state core sees linear access)
    (place_led placement' thread index state' core' sees' linear access) leads
