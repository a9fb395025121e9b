-- Every case of the table holds: computed from the definitions.
use mathlib.Core.Path.{refl}
use Rattle.outline.specs.Tests.{both, either, choose, within, all_below, some_below, list_of, in_order}
use Rattle.outline.specs.Refusals.{demand, ◌and_then◌, first_below}
use Rattle.outline.specs.Fares.{fare_at, in_map}
use Rattle.outline.specs.Network.{entry_of, network_of, same_station, leads, joins, or_else, joined_below, link_between}
use Rattle.outline.specs.Book.{word_at, offset_of, length_of, end_before, body_of, words, table_of, link_of, rule_of, fares_of, network}
use Rattle.outline.specs.Judging.{header_check, company_check, list_check, end_check, contents_check, good_entry, entry_check, row_check, table_check, tables_check, good_link, same_link, repeated, link_check, good_company, good_map, good_maps, good_rule, rule_check, fares_check, entry_offset, book_check}
use Rattle.outline.specs.Routes.{bytes_of, link_after, route_of, is_sold, exists, is_link, reached, met, meets, repeats, good_next, ride_check, good_length, route_check}
use Rattle.outline.specs.Matching.{yen_of, sum_of, same_companies, permits, permitted, unless, reason_of, earns}
use Rattle.outline.specs.Selections.{yen, total}
use Rattle.outline.specs.Choosing.{or_rule, best_rule, rather, with_run, or_run, best_from}
use Rattle.outline.specs.Price.{runs_of, fare_with, fare_of, belongs, paid_by, place_at, answer_with, answer_of, refused_answer, answer_to, price_of}
use Rattle.outline.specs.Questions.{known, question_check}
use Rattle.outline.specs.Listing.{those, of_each, rides, longer, routes_of, routes_within, joins_them, lex_le, no_later, first_of, answer_among, found_of, asked_of}
use Rattle.cases.specs.Table.{answered, bytes_in, outcome_of, AllHold, table}

pub all_hold : AllHold table
unfolding AllHold answered bytes_in outcome_of bytes_of known question_check in_order those of_each rides longer routes_of routes_within joins_them lex_le no_later first_of answer_among found_of asked_of both either choose within all_below some_below list_of demand ◌and_then◌ first_below fare_at in_map entry_of network_of same_station leads joins or_else joined_below link_between word_at offset_of length_of end_before body_of words table_of link_of rule_of fares_of network header_check company_check list_check end_check contents_check good_entry entry_check row_check table_check tables_check good_link same_link repeated link_check good_company good_map good_maps good_rule rule_check fares_check entry_offset book_check link_after route_of is_sold exists is_link reached met meets repeats good_next ride_check good_length route_check yen_of sum_of same_companies permits permitted unless reason_of earns yen total or_rule best_rule rather with_run or_run best_from runs_of fare_with fare_of belongs paid_by place_at answer_with answer_of refused_answer answer_to price_of
all_hold = (refl, (refl, (refl, (refl, (refl, (refl, (refl, (refl, (refl, (refl, (refl, (refl, (refl, (refl, (refl, (refl, (refl, tt)))))))))))))))))
