-- The bytes of a reply up to the empty line after its head: the status line (RFC 9112, section 4), `Content-Length`
-- (section 6.2) and `Connection` (section 9.6). Which lines there are, and their order, is this project's own.
use Rattle.std.specs.Prelude.{ℕ, List, [], ◌++◌, if◌then◌else◌, ◌==◌, Bool, codes}
use Rattle.std.specs.Fmt.{decimal}

-- the phrase of a status (RFC 9110, section 15; of 431 RFC 6585, section 5). Another status has none
abbrev pub phrase_of : ℕ → List ℕ
phrase_of status =
    if status == 200 then codes "OK"
    else if status == 400 then codes "Bad Request"
    else if status == 404 then codes "Not Found"
    else if status == 405 then codes "Method Not Allowed"
    else if status == 411 then codes "Length Required"
    else if status == 413 then codes "Content Too Large"
    else if status == 431 then codes "Request Header Fields Too Large"
    else if status == 500 then codes "Internal Server Error"
    else []

-- the line that tells that the connection is closed, where it is
abbrev pub close_text : Bool → List ℕ
close_text close = if close then codes "Connection: close\r\n" else []

-- the parts put together; of the phrase and of whether the connection closes these are their texts
abbrev pub reply_of_parts : ℕ → List ℕ → ℕ → List ℕ → List ℕ
reply_of_parts status phrase size close =
    codes "HTTP/1.1 " ++ (decimal status ++ (codes " " ++ (phrase ++ (codes "\r\nContent-Length: " ++ (decimal size
    ++ (codes "\r\n" ++ (close ++ codes "\r\n")))))))

-- of a status, the length of its body, and whether the connection closes
unfoldable pub reply_head : ℕ → ℕ → Bool → List ℕ
reply_head status size close = reply_of_parts status (phrase_of status) size (close_text close)
