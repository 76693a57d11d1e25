-- The bytes of an ask up to the empty line after its head: the request line (RFC 9112, section 3), `Host` (RFC 9110,
-- section 7.2), `Accept-Encoding` (RFC 9110, section 12.5.3), `Connection` (RFC 9112, section 9.6) and `Content-Length`
-- (RFC 9112, section 6.2). Which lines there are, and their order, is this project's own.
use Rattle.std.specs.Prelude.{ℕ, List, [], ◌++◌, if◌then◌else◌, ◌==◌, Option, Some, None, codes}
use Rattle.std.specs.Fmt.{decimal}
use Rattle.http_wire.specs.declared.reply.Method.{Method}
use Rattle.http_wire.specs.declared.reply.Method.TheVariants as method

abbrev pub method_name : Method → List ℕ
method_name method.Get = codes "GET"
method_name method.Head = codes "HEAD"
method_name method.Put = codes "PUT"

-- the port behind the host, where it isn't 80
unfoldable pub port_text : ℕ → List ℕ
port_text port = if port == 80 then [] else codes ":" ++ decimal port

-- the line that tells the body's length, where there is one
abbrev pub length_text : Option ℕ → List ℕ
length_text None = []
length_text (Some n) = codes "Content-Length: " ++ (decimal n ++ codes "\r\n")

-- the parts put together; of port and length these are their texts
abbrev pub ask_of_parts : List ℕ → List ℕ → List ℕ → List ℕ → List ℕ → List ℕ
ask_of_parts name path host port length =
    name ++ (codes " " ++ (path ++ (codes " HTTP/1.1\r\nHost: " ++ (host ++ (port
    ++ (codes "\r\nAccept-Encoding: identity\r\nConnection: close\r\n" ++ (length ++ codes "\r\n")))))))

-- of a method, a host, a port, a path and a length
unfoldable pub ask : Method → List ℕ → ℕ → List ℕ → Option ℕ → List ℕ
ask m host port path length = ask_of_parts (method_name m) path host (port_text port) (length_text length)
