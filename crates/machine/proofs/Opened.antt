-- One name that opens every definition of the machine: `unfolding opened` in a proof that computes.
use Rattle.words.specs.Words.{cell_word, link_word, register_word}
use Rattle.words.specs.Steps.{step_word, reading, fits, decode}
use Rattle.words.specs.Answers.{answer_word}
use Rattle.words.specs.Integers.{same_int}
use Rattle.machine.specs.Copies.{held, free, shown, word, in_pages, in_regions, set_page, set_region, set_cell, on_new, put}
use Rattle.machine.specs.Unify.{on_cell, follow, deref, on_argument, arguments_at, pairs, younger, meet, take_found, take, took_pair, solve}
use Rattle.machine.specs.Run.{as_region, as_term, as_live, kill, placed, build, operand, operands, headed, unified, unify_terms, kind_of, payload_of, seen, found_from, set_terms, apart, new_region, cut_to, back_to, exec, answers, final, state_of}
use Rattle.machine.specs.Image.{page_words, in_chain, or_else, page_image, pages_image, heap_image}
use Rattle.machine.specs.Tables.{numbered, word_at, born_mark, cell_mark, gone_mark, link_mark, turned_mark}
use Rattle.laws.specs.Search.{oldest, newest}
use Rattle.machine.specs.Strike.{lines, strike_from, struck, stretch_at, stretch, onward, fate, event_of}
use Rattle.machine.specs.Cases.{same, heap_holds, ends_as, holds, all_hold}

unfoldable pub opened : Unit {0}
unfolding cell_word link_word register_word step_word reading fits decode answer_word same_int
    held free shown word in_pages in_regions set_page set_region set_cell on_new put
    on_cell follow deref on_argument arguments_at pairs younger meet take_found take took_pair solve
    as_region as_term as_live kill placed build operand operands headed unified unify_terms kind_of payload_of seen found_from set_terms apart new_region cut_to back_to exec answers final state_of
    page_words in_chain or_else page_image pages_image heap_image
    oldest newest numbered word_at born_mark cell_mark gone_mark link_mark turned_mark
    lines strike_from struck stretch_at stretch onward fate event_of
    same heap_holds ends_as holds all_hold
opened = tt
