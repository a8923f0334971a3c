-- Whole calls over rows, computed by the prover: each row of time weights, each way a step or a run ends, and a step of 24 cells.
-- The numbers are the second program's: tests/compare/computed writes this file from tests/compare/calls.txt, and asks again in the tests.
-- A channel is its counts N, X, T, accepted, wanted and its rows h, e, u, V, Q, F, damping; an answer is number, stage, place and count.
use Rattle.std.specs.Prelude.{◌≡◌, [], ◌∷◌, pos, replicate}
use Rattle.rule.specs.Rows.{Row, minus}
use Rattle.rule.specs.Channel.{Channel, channel}
use Rattle.rule.specs.Calls.{make_call, step_call, filter_call, run_call, run_for_call}
use Rattle.rule.specs.Alike.{channels, alike}
use Rattle.rule.specs.Opened.{opened}
use Rattle.rule.specs.Computed.{answers, filter_uneven_before, onto, step_damping_and_poured_before, step_later_after, step_second_before, thrice}

-- a channel of 9 cells over an uneven bottom
abbrev make_uneven_before : Channel
make_uneven_before =
    channel 9 500 50 0 10
    filter_uneven_before.h
    filter_uneven_before.e
    filter_uneven_before.u
    (replicate 9 (pos 0))
    (replicate 24 (pos 0))
    (replicate 27 (pos 0))
    (replicate 9 (pos 0))

abbrev make_uneven_after : Channel
make_uneven_after =
    channel 9 500 50 0 10
    filter_uneven_before.h
    filter_uneven_before.e
    filter_uneven_before.u
    (pos 6084 ∷ minus 32153 ∷ pos 7086 ∷ pos 59821 ∷ minus 14833 ∷ pos 3281 ∷ minus 23903 ∷ pos 6309 ∷
    pos 44156 ∷ [])
    (thrice (minus 4492178354 ∷ minus 4503745099 ∷ pos 12335722716 ∷ pos 8708077713 ∷ minus 1878214754 ∷
    minus 3419647930 ∷ minus 2930424364 ∷ pos 9319554084 ∷ []))
    (thrice (pos 281362 ∷ pos 97935 ∷ minus 109698 ∷ minus 87065 ∷ pos 127120 ∷ minus 217041 ∷ pos 49729 ∷
    pos 333363 ∷ minus 221382 ∷ []))
    (replicate 9 (pos 0))

pub make_uneven : make_call make_uneven_before ≡ answers 0 0 0 0 make_uneven_after
unfolding opened
make_uneven = alike channels (make_call make_uneven_before) (answers 0 0 0 0 make_uneven_after) tt

-- a first step of the rows of step-later: of the levels it weighs the newest alone
abbrev step_first_before : Channel
step_first_before =
    channel 8 1000 25 0 9
    (replicate 8 (pos 300))
    step_second_before.e
    (replicate 8 (pos 0))
    step_second_before.v
    step_second_before.Q
    step_second_before.F
    (replicate 8 (pos 0))

abbrev step_first_after : Channel
step_first_after =
    channel 8 1000 25 1 9
    (replicate 8 (pos 300))
    (minus 365 ∷ minus 5421 ∷ pos 15606 ∷ minus 2521 ∷ pos 14096 ∷ minus 1416 ∷ pos 7229 ∷ minus 12608 ∷ [])
    (minus 171401 ∷ pos 134748 ∷ minus 66158 ∷ minus 136306 ∷ pos 50658 ∷ minus 186884 ∷ minus 4680 ∷
    pos 129 ∷ [])
    (minus 194180 ∷ pos 152547 ∷ minus 70748 ∷ minus 145331 ∷ pos 65559 ∷ minus 201618 ∷ pos 1547 ∷
    pos 307 ∷ [])
    (onto (minus 9452298601 ∷ pos 18921665983 ∷ minus 40763626533 ∷ minus 7853270177 ∷ minus 19766163624 ∷
    minus 34903577028 ∷ pos 3975659693 ∷ [])
    step_first_before.Q)
    (onto (pos 45088 ∷ minus 119122 ∷ minus 20323 ∷ pos 27418 ∷ minus 12107 ∷ pos 27645 ∷ pos 51968 ∷
    pos 136803 ∷ [])
    step_first_before.F)
    (replicate 8 (pos 0))

pub step_first : step_call step_first_before (replicate 8 (pos 0)) ≡ answers 0 0 0 1 step_first_after
unfolding opened
step_first = alike channels (step_call step_first_before (replicate 8 (pos 0))) (answers 0 0 0 1 step_first_after) tt

-- a third step of them, which leaves the rows that the fourth left
abbrev step_third_before : Channel
step_third_before =
    channel 8 1000 25 2 9
    (replicate 8 (pos 300))
    step_second_before.e
    (replicate 8 (pos 0))
    step_second_before.v
    step_second_before.Q
    step_second_before.F
    (replicate 8 (pos 0))

abbrev step_third_after : Channel
step_third_after =
    channel 8 1000 25 3 9
    (replicate 8 (pos 300))
    step_later_after.e
    step_later_after.u
    step_later_after.v
    step_later_after.Q
    step_later_after.F
    (replicate 8 (pos 0))

pub step_third : step_call step_third_before (replicate 8 (pos 0)) ≡ answers 0 0 0 1 step_third_after
unfolding opened
step_third = alike channels (step_call step_third_before (replicate 8 (pos 0))) (answers 0 0 0 1 step_third_after) tt

-- a step that settles at its first correction
abbrev step_settled_at_once_before : Channel
step_settled_at_once_before =
    channel 8 1000 20 0 10
    (pos 313 ∷ pos 313 ∷ pos 296 ∷ pos 321 ∷ pos 287 ∷ pos 320 ∷ pos 325 ∷ pos 283 ∷ [])
    (pos 7550 ∷ pos 8286 ∷ minus 1265 ∷ minus 8896 ∷ minus 8538 ∷ pos 3158 ∷ pos 5030 ∷ minus 6731 ∷ [])
    (minus 604 ∷ pos 725 ∷ pos 638 ∷ minus 425 ∷ minus 424 ∷ pos 521 ∷ minus 814 ∷ minus 6 ∷ [])
    (minus 701 ∷ pos 781 ∷ pos 671 ∷ minus 467 ∷ minus 455 ∷ pos 610 ∷ minus 902 ∷ pos 24 ∷ [])
    (thrice (minus 9825487 ∷ pos 274718034 ∷ pos 22462801 ∷ minus 177580276 ∷ pos 64246671 ∷ minus 48498436 ∷
    minus 173372184 ∷ []))
    (thrice (minus 12621 ∷ pos 44205 ∷ pos 99219 ∷ pos 43373 ∷ minus 73687 ∷ minus 86965 ∷ pos 66151 ∷ pos 78447 ∷ []))
    (replicate 8 (pos 0))

abbrev step_settled_at_once_after : Channel
step_settled_at_once_after =
    channel 8 1000 20 1 10
    step_settled_at_once_before.h
    (pos 7549 ∷ pos 8277 ∷ minus 1260 ∷ minus 8887 ∷ minus 8537 ∷ pos 3155 ∷ pos 5026 ∷ minus 6729 ∷ [])
    (minus 800 ∷ pos 1602 ∷ pos 2555 ∷ pos 398 ∷ minus 1837 ∷ minus 1090 ∷ pos 394 ∷ pos 1470 ∷ [])
    (minus 953 ∷ pos 1665 ∷ pos 2655 ∷ pos 401 ∷ minus 1929 ∷ minus 1130 ∷ pos 421 ∷ pos 1593 ∷ [])
    (onto (pos 64365924 ∷ pos 754097799 ∷ pos 513796131 ∷ minus 261229876 ∷ minus 527809838 ∷ minus 121131601 ∷
    pos 378998270 ∷ [])
    step_settled_at_once_before.Q)
    (onto (minus 12557 ∷ pos 44171 ∷ pos 99104 ∷ pos 43405 ∷ minus 73617 ∷ minus 86936 ∷ pos 66119 ∷ pos 78409 ∷ [])
    step_settled_at_once_before.F)
    (replicate 8 (pos 0))

pub step_settled_at_once :
    step_call step_settled_at_once_before (replicate 8 (pos 0))
    ≡ answers 0 0 0 1 step_settled_at_once_after
unfolding opened
step_settled_at_once =
    alike channels
    (step_call step_settled_at_once_before (replicate 8 (pos 0)))
    (answers 0 0 0 1 step_settled_at_once_after) tt

-- a rough third step that takes eight corrections
abbrev step_eight_corrections_before : Channel
step_eight_corrections_before =
    channel 8 200 100 2 10
    (pos 546 ∷ pos 511 ∷ pos 514 ∷ pos 540 ∷ pos 545 ∷ pos 482 ∷ pos 541 ∷ pos 461 ∷ [])
    (minus 70908 ∷ minus 84446 ∷ pos 63512 ∷ pos 66844 ∷ minus 16642 ∷ minus 71498 ∷ minus 32739 ∷
    pos 44699 ∷ [])
    (minus 513007 ∷ minus 322067 ∷ minus 833816 ∷ pos 1850030 ∷ pos 1408986 ∷ pos 1534322 ∷ pos 240545 ∷
    minus 934469 ∷ [])
    (minus 4132124 ∷ pos 1605788 ∷ minus 9400597 ∷ pos 10528940 ∷ pos 534934 ∷ pos 4090216 ∷ pos 14860 ∷
    minus 7359862 ∷ [])
    (thrice (minus 275646668861 ∷ minus 678285451170 ∷ pos 356313479967 ∷ pos 1369439316733 ∷ pos 748482326378 ∷
    pos 507865047973 ∷ minus 520643743132 ∷ []))
    (thrice (minus 133452 ∷ minus 4356301 ∷ pos 643982 ∷ minus 9725886 ∷ pos 6243851 ∷ pos 4631604 ∷
    minus 1616952 ∷ pos 478772 ∷ []))
    (replicate 8 (pos 0))

abbrev step_eight_corrections_after : Channel
step_eight_corrections_after =
    channel 8 200 100 3 10
    step_eight_corrections_before.h
    (pos 84377 ∷ pos 44746 ∷ minus 329024 ∷ minus 407997 ∷ pos 143537 ∷ pos 59179 ∷ pos 465203 ∷
    minus 161199 ∷ [])
    (minus 511272 ∷ minus 293237 ∷ minus 822975 ∷ pos 1566889 ∷ pos 1280789 ∷ pos 1521613 ∷ pos 320810 ∷
    minus 777523 ∷ [])
    (minus 4191749 ∷ pos 1748771 ∷ minus 8627962 ∷ pos 8976004 ∷ pos 504976 ∷ pos 4149883 ∷ pos 226407 ∷
    minus 6432876 ∷ [])
    (onto (minus 368748532557 ∷ minus 386674176587 ∷ minus 17818537127 ∷ pos 826066927228 ∷ pos 1007558100807 ∷
    pos 711641025435 ∷ minus 230406457169 ∷ [])
    step_eight_corrections_before.Q)
    (onto (minus 1365141 ∷ pos 11071980 ∷ pos 19534794 ∷ minus 25196770 ∷ minus 11226561 ∷ minus 6127006 ∷
    pos 8352100 ∷ pos 23923537 ∷ [])
    step_eight_corrections_before.F)
    (replicate 8 (pos 0))

pub step_eight_corrections :
    step_call step_eight_corrections_before (replicate 8 (pos 0))
    ≡ answers 0 0 0 8 step_eight_corrections_after
unfolding opened
step_eight_corrections =
    alike channels
    (step_call step_eight_corrections_before (replicate 8 (pos 0)))
    (answers 0 0 0 8 step_eight_corrections_after) tt

-- ten corrections that do not settle
abbrev step_unsettled_before : Channel
step_unsettled_before =
    channel 8 200 100 0 10
    (pos 316 ∷ pos 310 ∷ pos 293 ∷ pos 301 ∷ pos 285 ∷ pos 287 ∷ pos 289 ∷ pos 299 ∷ [])
    (minus 1774 ∷ minus 18490 ∷ minus 48123 ∷ pos 7016 ∷ pos 7403 ∷ pos 35462 ∷ pos 34911 ∷ pos 13251 ∷ [])
    (minus 1252541 ∷ pos 1305009 ∷ minus 1088149 ∷ minus 1966223 ∷ minus 1888512 ∷ minus 1298267 ∷
    minus 1121346 ∷ minus 417766 ∷ [])
    (minus 6148899 ∷ pos 5898732 ∷ minus 2381488 ∷ minus 2966088 ∷ minus 2165583 ∷ minus 972157 ∷
    minus 1544176 ∷ minus 577298 ∷ [])
    (thrice (minus 27063341065 ∷ pos 226622310016 ∷ minus 541458605425 ∷ minus 645482301060 ∷
    minus 486051833660 ∷ minus 401277968492 ∷ minus 275798803352 ∷ []))
    (thrice (pos 531372 ∷ minus 913784 ∷ minus 12373482 ∷ minus 4708053 ∷ pos 3640149 ∷ pos 1608299 ∷
    pos 2963801 ∷ pos 2428145 ∷ []))
    (replicate 8 (pos 0))

pub step_unsettled : step_call step_unsettled_before (replicate 8 (pos 0)) ≡ answers 10 10 0 0 step_unsettled_before
unfolding opened
step_unsettled =
    alike channels
    (step_call step_unsettled_before (replicate 8 (pos 0)))
    (answers 10 10 0 0 step_unsettled_before) tt

-- a cell falls dry at the first correction
abbrev step_dry_at_a_correction_before : Channel
step_dry_at_a_correction_before =
    channel 8 200 50 0 10
    (pos 67 ∷ pos 62 ∷ pos 65 ∷ pos 64 ∷ pos 54 ∷ pos 58 ∷ pos 59 ∷ pos 56 ∷ [])
    (pos 28292 ∷ minus 23243 ∷ pos 22688 ∷ pos 36499 ∷ minus 16663 ∷ pos 30489 ∷ minus 14696 ∷ minus 6571 ∷ [])
    (minus 1840698 ∷ minus 82667 ∷ pos 265475 ∷ pos 242235 ∷ minus 1805431 ∷ pos 707703 ∷ pos 817150 ∷
    pos 1089123 ∷ [])
    (minus 2079149 ∷ minus 22904 ∷ pos 280769 ∷ pos 307522 ∷ minus 1938871 ∷ pos 780356 ∷ pos 814747 ∷
    pos 1162222 ∷ [])
    (thrice (minus 121654052846 ∷ pos 24621603783 ∷ pos 34083944935 ∷ minus 32447676772 ∷ minus 8030099796 ∷
    pos 59083855816 ∷ pos 52072900967 ∷ []))
    (thrice (minus 10068382 ∷ pos 852225 ∷ minus 2420927 ∷ pos 3258333 ∷ pos 2429950 ∷ minus 6177337 ∷
    pos 458076 ∷ pos 5778191 ∷ []))
    (replicate 8 (pos 0))

abbrev step_dry_at_a_correction_poured : Row
step_dry_at_a_correction_poured =
    minus 258 ∷ pos 227 ∷ minus 242 ∷ minus 241 ∷ minus 174 ∷ pos 107 ∷ pos 70 ∷ minus 194 ∷ []

pub step_dry_at_a_correction :
    step_call step_dry_at_a_correction_before step_dry_at_a_correction_poured
    ≡ answers 4 1 2 0 step_dry_at_a_correction_before
unfolding opened
step_dry_at_a_correction =
    alike channels
    (step_call step_dry_at_a_correction_before step_dry_at_a_correction_poured)
    (answers 4 1 2 0 step_dry_at_a_correction_before) tt

-- u leaves its range at a correction
abbrev step_too_fast_before : Channel
step_too_fast_before =
    channel 8 2000 100 0 10
    (pos 2034 ∷ pos 2011 ∷ pos 2027 ∷ pos 1982 ∷ pos 1955 ∷ pos 2021 ∷ pos 2042 ∷ pos 2027 ∷ [])
    (minus 2322 ∷ pos 6471 ∷ pos 3799 ∷ pos 5969 ∷ pos 8656 ∷ pos 814 ∷ minus 6550 ∷ minus 8217 ∷ [])
    (minus 8326527 ∷ pos 13865999 ∷ pos 17272962 ∷ pos 11381519 ∷ minus 17059923 ∷ pos 8328596 ∷
    minus 7431885 ∷ minus 12949135 ∷ [])
    (minus 23910445 ∷ pos 21250897 ∷ pos 21195614 ∷ pos 19693157 ∷ minus 37342934 ∷ pos 24456097 ∷
    minus 11601741 ∷ minus 25504858 ∷ [])
    (thrice (pos 887374870563 ∷ pos 37946289134366 ∷ pos 35906782938543 ∷ minus 12306908091995 ∷
    minus 10815049437776 ∷ pos 7741729625876 ∷ minus 30125587851494 ∷ []))
    (thrice (pos 4541701 ∷ minus 116572435 ∷ pos 8025421 ∷ pos 127609264 ∷ pos 212699 ∷ minus 35128762 ∷
    minus 61981243 ∷ pos 88458452 ∷ []))
    (replicate 8 (pos 0))

pub step_too_fast : step_call step_too_fast_before (replicate 8 (pos 0)) ≡ answers 7 1 0 0 step_too_fast_before
unfolding opened
step_too_fast =
    alike channels
    (step_call step_too_fast_before (replicate 8 (pos 0)))
    (answers 7 1 0 0 step_too_fast_before) tt

-- a channel of 24 cells
abbrev make_wide_before : Channel
make_wide_before =
    channel 24 500 40 0 10
    (pos 319 ∷ pos 293 ∷ pos 297 ∷ pos 291 ∷ pos 294 ∷ pos 291 ∷ pos 281 ∷ pos 289 ∷ pos 306 ∷ pos 271 ∷
    pos 326 ∷ pos 329 ∷ pos 284 ∷ pos 273 ∷ pos 336 ∷ pos 291 ∷ pos 332 ∷ pos 326 ∷ pos 308 ∷ pos 333 ∷
    pos 280 ∷ pos 302 ∷ pos 290 ∷ pos 311 ∷ [])
    (minus 4995 ∷ minus 12559 ∷ pos 2763 ∷ pos 6265 ∷ minus 2975 ∷ pos 6651 ∷ pos 14284 ∷ minus 13911 ∷
    minus 7997 ∷ minus 4640 ∷ minus 3894 ∷ pos 14320 ∷ pos 9346 ∷ minus 12720 ∷ minus 4817 ∷
    minus 11825 ∷ minus 6940 ∷ pos 6794 ∷ pos 4545 ∷ pos 11183 ∷ minus 9989 ∷ pos 11841 ∷ pos 12777 ∷
    pos 1041 ∷ [])
    (pos 105372 ∷ minus 45515 ∷ minus 50162 ∷ pos 27392 ∷ pos 74716 ∷ minus 48207 ∷ minus 68076 ∷
    minus 95465 ∷ pos 31092 ∷ pos 9611 ∷ pos 85698 ∷ minus 79558 ∷ pos 51134 ∷ minus 82488 ∷
    minus 34998 ∷ pos 5711 ∷ minus 68115 ∷ pos 55736 ∷ pos 38420 ∷ pos 85383 ∷ minus 85568 ∷ pos 4736 ∷
    pos 12499 ∷ minus 52007 ∷ [])
    (replicate 24 (pos 0))
    (replicate 69 (pos 0))
    (replicate 72 (pos 0))
    (replicate 24 (pos 0))

abbrev make_wide_after : Channel
make_wide_after =
    channel 24 500 40 0 10
    make_wide_before.h
    make_wide_before.e
    make_wide_before.u
    (pos 161981 ∷ minus 66681 ∷ minus 61485 ∷ pos 31433 ∷ pos 97634 ∷ minus 62381 ∷ minus 66406 ∷
    minus 116183 ∷ pos 51881 ∷ minus 4907 ∷ pos 126244 ∷ minus 127745 ∷ pos 86005 ∷ minus 102594 ∷
    minus 37329 ∷ pos 23542 ∷ minus 101706 ∷ pos 79903 ∷ pos 26854 ∷ pos 120553 ∷ minus 120275 ∷
    pos 15369 ∷ pos 22619 ∷ minus 77262 ∷ [])
    (thrice (pos 16758336179 ∷ minus 20327873146 ∷ minus 4929233004 ∷ pos 20457838384 ∷ pos 5508046914 ∷
    minus 19987404916 ∷ minus 27023363467 ∷ minus 8405854475 ∷ pos 7013184493 ∷ pos 19806050852 ∷
    minus 1518817118 ∷ minus 8172162931 ∷ minus 242542271 ∷ minus 21083879361 ∷ minus 1859433623 ∷
    minus 13038949063 ∷ minus 3483857102 ∷ pos 17551206179 ∷ pos 25183248463 ∷ pos 2755596192 ∷
    minus 15799535167 ∷ pos 6805506058 ∷ minus 9103066923 ∷ []))
    (thrice (pos 113899 ∷ minus 93511 ∷ minus 237783 ∷ pos 101888 ∷ pos 21096 ∷ minus 266926 ∷ pos 256945 ∷
    pos 284678 ∷ minus 154545 ∷ minus 8184 ∷ minus 209166 ∷ minus 188835 ∷ pos 351345 ∷ pos 131860 ∷
    minus 33523 ∷ pos 60058 ∷ minus 224520 ∷ minus 119783 ∷ minus 64024 ∷ pos 211746 ∷ minus 3979 ∷
    minus 315089 ∷ pos 160530 ∷ pos 157926 ∷ []))
    (replicate 24 (pos 0))

pub make_wide : make_call make_wide_before ≡ answers 0 0 0 0 make_wide_after
unfolding opened
make_wide = alike channels (make_call make_wide_before) (answers 0 0 0 0 make_wide_after) tt

-- a step of 24 cells with a poured row
abbrev step_wide_after : Channel
step_wide_after =
    channel 24 500 40 1 10
    make_wide_before.h
    (minus 6186 ∷ minus 8860 ∷ pos 1048 ∷ pos 4369 ∷ minus 959 ∷ pos 8221 ∷ pos 13979 ∷ minus 14896 ∷
    minus 9777 ∷ minus 6016 ∷ minus 2398 ∷ pos 15128 ∷ pos 8845 ∷ minus 10532 ∷ minus 6774 ∷
    minus 10981 ∷ minus 8133 ∷ pos 5807 ∷ pos 3565 ∷ pos 12877 ∷ minus 9121 ∷ pos 10055 ∷ pos 13762 ∷
    pos 1200 ∷ [])
    (pos 107143 ∷ minus 48875 ∷ minus 56550 ∷ pos 29029 ∷ pos 74140 ∷ minus 55323 ∷ minus 59104 ∷
    minus 85782 ∷ pos 27244 ∷ pos 7378 ∷ pos 78169 ∷ minus 84530 ∷ pos 61896 ∷ minus 76849 ∷
    minus 35115 ∷ pos 6508 ∷ minus 74926 ∷ pos 50984 ∷ pos 36080 ∷ pos 91065 ∷ minus 85255 ∷
    minus 4644 ∷ pos 16698 ∷ minus 47063 ∷ [])
    (pos 165070 ∷ minus 70335 ∷ minus 69397 ∷ pos 34448 ∷ pos 97631 ∷ minus 72429 ∷ minus 55544 ∷
    minus 104560 ∷ pos 45877 ∷ minus 6033 ∷ pos 117338 ∷ minus 134620 ∷ pos 99564 ∷ minus 96946 ∷
    minus 38342 ∷ pos 25641 ∷ minus 110177 ∷ pos 75092 ∷ pos 23647 ∷ pos 128522 ∷ minus 119490 ∷
    pos 2714 ∷ pos 28507 ∷ minus 70655 ∷ [])
    (onto (pos 16565628862 ∷ minus 22154069112 ∷ minus 5646852283 ∷ pos 21075427673 ∷ pos 3902635189 ∷
    minus 19969275242 ∷ minus 23502643442 ∷ minus 7680833538 ∷ pos 5895829137 ∷ pos 18340802862 ∷
    minus 4192593960 ∷ minus 7294715220 ∷ pos 2541013953 ∷ minus 20612809244 ∷ minus 1640846000 ∷
    minus 14026593694 ∷ minus 5671643807 ∷ pos 16133010798 ∷ pos 26138740764 ∷ pos 4367103314 ∷
    minus 17850988110 ∷ pos 5678703930 ∷ minus 7011396988 ∷ [])
    make_wide_after.Q)
    (onto (pos 40969 ∷ minus 89140 ∷ minus 158304 ∷ pos 49089 ∷ minus 20935 ∷ minus 235657 ∷ pos 286015 ∷
    pos 296431 ∷ minus 145688 ∷ minus 47928 ∷ minus 236086 ∷ minus 155090 ∷ pos 326676 ∷ pos 150502 ∷
    minus 17183 ∷ pos 44974 ∷ minus 199129 ∷ minus 120830 ∷ minus 96081 ∷ pos 186767 ∷ pos 42980 ∷
    minus 317663 ∷ pos 134011 ∷ pos 172372 ∷ [])
    make_wide_after.F)
    (replicate 24 (pos 0))

abbrev step_wide_poured : Row
step_wide_poured =
    pos 142 ∷ pos 666 ∷ minus 438 ∷ pos 189 ∷ pos 730 ∷ minus 404 ∷ minus 727 ∷ pos 392 ∷ minus 621 ∷
    minus 366 ∷ minus 259 ∷ pos 418 ∷ pos 210 ∷ pos 428 ∷ minus 429 ∷ minus 99 ∷ minus 477 ∷ pos 727 ∷
    minus 274 ∷ minus 74 ∷ minus 764 ∷ pos 60 ∷ minus 158 ∷ pos 803 ∷ []

pub step_wide : step_call make_wide_after step_wide_poured ≡ answers 0 0 0 2 step_wide_after
unfolding opened
step_wide = alike channels (step_call make_wide_after step_wide_poured) (answers 0 0 0 2 step_wide_after) tt

-- the channel of 'One step by hand' in docs/RULE.md
abbrev make_by_hand_before : Channel
make_by_hand_before =
    channel 8 1000 50 0 10
    (replicate 8 (pos 1000))
    (pos 0 ∷ pos 0 ∷ pos 0 ∷ pos 12000 ∷ pos 0 ∷ pos 0 ∷ pos 0 ∷ pos 0 ∷ [])
    (replicate 8 (pos 0))
    (replicate 8 (pos 0))
    (replicate 21 (pos 0))
    (replicate 24 (pos 0))
    (replicate 8 (pos 0))

abbrev make_by_hand_after : Channel
make_by_hand_after =
    channel 8 1000 50 0 10
    (replicate 8 (pos 1000))
    make_by_hand_before.e
    (replicate 8 (pos 0))
    (replicate 8 (pos 0))
    (replicate 21 (pos 0))
    (thrice (pos 0 ∷ pos 9810 ∷ minus 78480 ∷ pos 0 ∷ pos 78480 ∷ minus 9810 ∷ pos 0 ∷ pos 0 ∷ []))
    (replicate 8 (pos 0))

pub make_by_hand : make_call make_by_hand_before ≡ answers 0 0 0 0 make_by_hand_after
unfolding opened
make_by_hand = alike channels (make_call make_by_hand_before) (answers 0 0 0 0 make_by_hand_after) tt

-- its first step, whose stages are worked out there: three corrections
abbrev step_by_hand_after : Channel
step_by_hand_after =
    channel 8 1000 50 1 10
    (replicate 8 (pos 1000))
    (minus 2 ∷ pos 40 ∷ pos 2 ∷ pos 11920 ∷ pos 2 ∷ pos 40 ∷ minus 2 ∷ pos 0 ∷ [])
    (minus 44 ∷ minus 227 ∷ minus 2243 ∷ pos 0 ∷ pos 2244 ∷ pos 230 ∷ pos 56 ∷ pos 10 ∷ [])
    (minus 8 ∷ pos 488 ∷ minus 3904 ∷ pos 0 ∷ pos 3904 ∷ minus 488 ∷ pos 6 ∷ minus 1 ∷ [])
    (onto (pos 79807267 ∷ minus 1505934908 ∷ minus 1597243769 ∷ pos 1597408731 ∷ pos 1507041570 ∷
    minus 76774261 ∷ pos 15801000 ∷ [])
    make_by_hand_after.Q)
    (onto (minus 306 ∷ pos 9720 ∷ minus 77692 ∷ pos 0 ∷ pos 77692 ∷ minus 9718 ∷ pos 260 ∷ minus 47 ∷ [])
    make_by_hand_after.F)
    (replicate 8 (pos 0))

pub step_by_hand : step_call make_by_hand_after (replicate 8 (pos 0)) ≡ answers 0 0 0 3 step_by_hand_after
unfolding opened
step_by_hand =
    alike channels
    (step_call make_by_hand_after (replicate 8 (pos 0)))
    (answers 0 0 0 3 step_by_hand_after) tt

-- a tank 500 mm deep of cells of 20 mm, with a time step of 20 ms: a Courant number of 2.21, which is allowed
abbrev make_tank_before : Channel
make_tank_before =
    channel 8 20 20 0 10
    (replicate 8 (pos 500))
    (pos 0 ∷ pos 0 ∷ pos 0 ∷ pos 0 ∷ pos 0 ∷ pos 0 ∷ pos 0 ∷ pos 1000 ∷ [])
    (replicate 8 (pos 0))
    (replicate 8 (pos 0))
    (replicate 21 (pos 0))
    (replicate 24 (pos 0))
    (replicate 8 (pos 0))

abbrev make_tank_after : Channel
make_tank_after =
    channel 8 20 20 0 10
    (replicate 8 (pos 500))
    make_tank_before.e
    (replicate 8 (pos 0))
    (replicate 8 (pos 0))
    (replicate 21 (pos 0))
    (thrice (pos 0 ∷ pos 0 ∷ pos 0 ∷ pos 0 ∷ pos 0 ∷ pos 40875 ∷ minus 286125 ∷ minus 327000 ∷ []))
    (replicate 8 (pos 0))

pub make_tank : make_call make_tank_before ≡ answers 0 0 0 0 make_tank_after
unfolding opened
make_tank = alike channels (make_call make_tank_before) (answers 0 0 0 0 make_tank_after) tt

-- an early cell falls dry and a later one is too high: the check of heights goes over all cells first
abbrev filter_too_high_before : Channel
filter_too_high_before =
    channel 8 5000 20 0 6
    (pos 300 ∷ pos 20000 ∷ pos 300 ∷ pos 20000 ∷ pos 20000 ∷ pos 20000 ∷ pos 20000 ∷ pos 20000 ∷ [])
    (pos 0 ∷ minus 298500 ∷ pos 19999999 ∷ pos 20000000 ∷ pos 19999999 ∷ pos 20000000 ∷ minus 9000000 ∷
    minus 19999000 ∷ [])
    (replicate 8 (pos 0))
    (replicate 8 (pos 0))
    (replicate 21 (pos 0))
    (replicate 24 (pos 0))
    (replicate 8 (pos 0))

pub filter_too_high : filter_call filter_too_high_before ≡ answers 8 0 0 0 filter_too_high_before
unfolding opened
filter_too_high = alike channels (filter_call filter_too_high_before) (answers 8 0 0 0 filter_too_high_before) tt

-- a depth of 0 in cell 6 and a height out of range in cell 2: all depths are asked first
abbrev make_depth_and_height_before : Channel
make_depth_and_height_before =
    channel 8 1000 20 0 10
    (pos 300 ∷ pos 300 ∷ pos 300 ∷ pos 300 ∷ pos 300 ∷ pos 0 ∷ pos 300 ∷ pos 300 ∷ [])
    (pos 0 ∷ pos 20000001 ∷ pos 0 ∷ pos 0 ∷ pos 0 ∷ pos 0 ∷ pos 0 ∷ pos 0 ∷ [])
    (replicate 8 (pos 0))
    (replicate 8 (pos 0))
    (replicate 21 (pos 0))
    (replicate 24 (pos 0))
    (replicate 8 (pos 0))

pub make_depth_and_height : make_call make_depth_and_height_before ≡ answers 31 0 6 0 make_depth_and_height_before
unfolding opened
make_depth_and_height =
    alike channels
    (make_call make_depth_and_height_before)
    (answers 31 0 6 0 make_depth_and_height_before) tt

-- a flux out of range in face 7 of the newest level and in face 2 of the middle one: the newest level is asked first
abbrev step_two_levels_before : Channel
step_two_levels_before =
    channel 8 1000 20 0 10
    (replicate 8 (pos 300))
    (replicate 8 (pos 0))
    (replicate 8 (pos 0))
    (replicate 8 (pos 0))
    (onto (pos 0 ∷ pos 0 ∷ pos 0 ∷ pos 0 ∷ pos 0 ∷ pos 0 ∷ pos 1000000000000001 ∷ [])
    (onto (pos 0 ∷ minus 1000000000000001 ∷ pos 0 ∷ pos 0 ∷ pos 0 ∷ pos 0 ∷ pos 0 ∷ [])
    make_depth_and_height_before.Q))
    (replicate 24 (pos 0))
    (replicate 8 (pos 0))

pub step_two_levels :
    step_call step_two_levels_before (replicate 8 (pos 0))
    ≡ answers 35 0 7 0 step_two_levels_before
unfolding opened
step_two_levels =
    alike channels
    (step_call step_two_levels_before (replicate 8 (pos 0)))
    (answers 35 0 7 0 step_two_levels_before) tt

-- a first step with a flux out of range in face 5 of the oldest level, which has no weight there and is asked all the same
abbrev step_oldest_level_before : Channel
step_oldest_level_before =
    channel 8 1000 20 0 10
    (replicate 8 (pos 300))
    (replicate 8 (pos 0))
    (replicate 8 (pos 0))
    (replicate 8 (pos 0))
    (pos 0 ∷ pos 0 ∷ pos 0 ∷ pos 0 ∷ pos 0 ∷ pos 0 ∷ pos 0 ∷
    pos 0 ∷ pos 0 ∷ pos 0 ∷ pos 0 ∷ pos 0 ∷ pos 0 ∷ pos 0 ∷
    pos 0 ∷ pos 0 ∷ pos 0 ∷ pos 0 ∷ minus 1000000000000001 ∷ pos 0 ∷ pos 0 ∷ [])
    (replicate 24 (pos 0))
    (replicate 8 (pos 0))

pub step_oldest_level :
    step_call step_oldest_level_before (replicate 8 (pos 0))
    ≡ answers 35 0 5 0 step_oldest_level_before
unfolding opened
step_oldest_level =
    alike channels
    (step_call step_oldest_level_before (replicate 8 (pos 0)))
    (answers 35 0 5 0 step_oldest_level_before) tt

-- an acceleration out of range in the oldest level (36) is told before a damping out of range
abbrev step_level_and_damping_before : Channel
step_level_and_damping_before =
    channel 8 1000 20 0 10
    (replicate 8 (pos 300))
    (replicate 8 (pos 0))
    (replicate 8 (pos 0))
    (replicate 8 (pos 0))
    (replicate 21 (pos 0))
    (pos 0 ∷ pos 0 ∷ pos 0 ∷ pos 0 ∷ pos 0 ∷ pos 0 ∷ pos 0 ∷ pos 0 ∷
    pos 0 ∷ pos 0 ∷ pos 0 ∷ pos 0 ∷ pos 0 ∷ pos 0 ∷ pos 0 ∷ pos 0 ∷
    pos 0 ∷ pos 0 ∷ pos 0 ∷ pos 0 ∷ pos 0 ∷ pos 0 ∷ pos 0 ∷ pos 100000000001 ∷ [])
    (pos 10001 ∷ pos 0 ∷ pos 0 ∷ pos 0 ∷ pos 0 ∷ pos 0 ∷ pos 0 ∷ pos 0 ∷ [])

pub step_level_and_damping :
    step_call step_level_and_damping_before (replicate 8 (pos 0))
    ≡ answers 36 0 8 0 step_level_and_damping_before
unfolding opened
step_level_and_damping =
    alike channels
    (step_call step_level_and_damping_before (replicate 8 (pos 0)))
    (answers 36 0 8 0 step_level_and_damping_before) tt

-- a damping out of range in cell 7 (38) is told before a cell with too little water (4)
abbrev make_damping_and_dry_before : Channel
make_damping_and_dry_before =
    channel 8 1000 20 0 10
    (replicate 8 (pos 300))
    step_damping_and_poured_before.e
    (replicate 8 (pos 0))
    (replicate 8 (pos 0))
    (replicate 21 (pos 0))
    (replicate 24 (pos 0))
    (pos 0 ∷ pos 0 ∷ pos 0 ∷ pos 0 ∷ pos 0 ∷ pos 0 ∷ pos 10001 ∷ pos 0 ∷ [])

pub make_damping_and_dry : make_call make_damping_and_dry_before ≡ answers 38 0 7 0 make_damping_and_dry_before
unfolding opened
make_damping_and_dry =
    alike channels
    (make_call make_damping_and_dry_before)
    (answers 38 0 7 0 make_damping_and_dry_before) tt

-- cells 3 and 6 fall dry in the prediction: the lower one is told
abbrev step_dry_cells_before : Channel
step_dry_cells_before =
    channel 8 1000 1 0 10
    (replicate 8 (pos 2))
    (pos 0 ∷ pos 0 ∷ minus 1000 ∷ pos 0 ∷ pos 0 ∷ minus 1000 ∷ pos 0 ∷ pos 0 ∷ [])
    (replicate 8 (pos 0))
    (replicate 8 (pos 0))
    (thrice (pos 0 ∷ pos 0 ∷ pos 1000000000 ∷ pos 0 ∷ pos 0 ∷ pos 1000000000 ∷ pos 0 ∷ []))
    (replicate 24 (pos 0))
    (replicate 8 (pos 0))

pub step_dry_cells : step_call step_dry_cells_before (replicate 8 (pos 0)) ≡ answers 4 0 3 0 step_dry_cells_before
unfolding opened
step_dry_cells =
    alike channels
    (step_call step_dry_cells_before (replicate 8 (pos 0)))
    (answers 4 0 3 0 step_dry_cells_before) tt

-- a run of that channel accepts no step, and tells the cell of the step that was refused
pub run_dry_cells : run_call step_dry_cells_before ≡ answers 4 0 3 0 step_dry_cells_before
unfolding opened
run_dry_cells = alike channels (run_call step_dry_cells_before) (answers 4 0 3 0 step_dry_cells_before) tt

-- a run of at most two steps pauses with 16, for the channel is not complete
abbrev pub run_paused_before : Channel
run_paused_before =
    channel 8 1000 20 0 3
    (pos 323 ∷ pos 299 ∷ pos 319 ∷ pos 330 ∷ pos 285 ∷ pos 311 ∷ pos 273 ∷ pos 327 ∷ [])
    (minus 6291 ∷ pos 2182 ∷ pos 5370 ∷ minus 1921 ∷ pos 2476 ∷ pos 7817 ∷ minus 6659 ∷ pos 8806 ∷ [])
    (minus 974 ∷ pos 497 ∷ minus 557 ∷ minus 165 ∷ minus 428 ∷ minus 628 ∷ pos 876 ∷ pos 776 ∷ [])
    (minus 1111 ∷ pos 591 ∷ minus 612 ∷ minus 142 ∷ minus 426 ∷ minus 689 ∷ pos 920 ∷ pos 845 ∷ [])
    (thrice (minus 104561236 ∷ pos 12790748 ∷ minus 139879033 ∷ minus 70996970 ∷ minus 204929258 ∷ pos 7329417 ∷
    pos 328930189 ∷ []))
    (thrice (minus 52808 ∷ minus 72691 ∷ pos 34000 ∷ pos 23533 ∷ minus 73520 ∷ pos 68513 ∷ minus 1294 ∷
    minus 112974 ∷ []))
    (replicate 8 (pos 0))

abbrev run_paused_after : Channel
run_paused_after =
    channel 8 1000 20 2 3
    run_paused_before.h
    (minus 6268 ∷ pos 2163 ∷ pos 5361 ∷ minus 1906 ∷ pos 2474 ∷ pos 7796 ∷ minus 6640 ∷ pos 8800 ∷ [])
    (minus 2943 ∷ minus 2247 ∷ pos 640 ∷ pos 662 ∷ minus 3077 ∷ pos 1834 ∷ pos 765 ∷ minus 3243 ∷ [])
    (minus 3220 ∷ minus 2314 ∷ pos 745 ∷ pos 799 ∷ minus 3363 ∷ pos 2051 ∷ pos 866 ∷ minus 3673 ∷ [])
    (onto (minus 1041430441 ∷ minus 213102179 ∷ pos 384062242 ∷ minus 457478786 ∷ minus 210764553 ∷
    pos 631223459 ∷ minus 664373936 ∷ [])
    (onto (minus 573529878 ∷ minus 100029047 ∷ pos 122537201 ∷ minus 264469693 ∷ minus 207930886 ∷
    pos 319599253 ∷ minus 167797500 ∷ [])
    run_paused_before.Q))
    (onto (minus 52534 ∷ minus 72482 ∷ pos 33757 ∷ pos 23488 ∷ minus 73260 ∷ pos 68352 ∷ minus 1392 ∷
    minus 112773 ∷ [])
    (onto (minus 52722 ∷ minus 72640 ∷ pos 33937 ∷ pos 23520 ∷ minus 73453 ∷ pos 68510 ∷ minus 1350 ∷
    minus 112975 ∷ [])
    run_paused_before.F))
    (replicate 8 (pos 0))

pub run_paused : run_for_call 2 run_paused_before ≡ answers 16 0 0 2 run_paused_after
unfolding opened
run_paused = alike channels (run_for_call 2 run_paused_before) (answers 16 0 0 2 run_paused_after) tt

-- a run of three steps to the end
abbrev run_complete_after : Channel
run_complete_after =
    channel 8 1000 20 3 3
    run_paused_before.h
    (minus 6243 ∷ pos 2143 ∷ pos 5346 ∷ minus 1885 ∷ pos 2467 ∷ pos 7776 ∷ minus 6606 ∷ pos 8782 ∷ [])
    (minus 3921 ∷ minus 3614 ∷ pos 1233 ∷ pos 1075 ∷ minus 4396 ∷ pos 3060 ∷ pos 709 ∷ minus 5246 ∷ [])
    (minus 4268 ∷ minus 3761 ∷ pos 1417 ∷ pos 1268 ∷ minus 4825 ∷ pos 3415 ∷ pos 838 ∷ minus 5925 ∷ [])
    (onto (minus 1507455897 ∷ minus 326338225 ∷ pos 644617181 ∷ minus 649562273 ∷ minus 213691671 ∷
    pos 941794159 ∷ minus 1159418213 ∷ [])
    run_paused_after.Q)
    (onto (minus 52245 ∷ minus 72216 ∷ pos 33460 ∷ pos 23438 ∷ minus 72948 ∷ pos 68046 ∷ minus 1412 ∷
    minus 112377 ∷ [])
    run_paused_after.F)
    (replicate 8 (pos 0))

pub run_complete : run_call run_paused_before ≡ answers 0 0 0 3 run_complete_after
unfolding opened
run_complete = alike channels (run_call run_paused_before) (answers 0 0 0 3 run_complete_after) tt

-- taken up again and allowed more steps than are left, it completes, and leaves what the run of three steps left
pub run_resumed : run_for_call 9 run_paused_after ≡ answers 0 0 0 1 run_complete_after
unfolding opened
run_resumed = alike channels (run_for_call 9 run_paused_after) (answers 0 0 0 1 run_complete_after) tt
